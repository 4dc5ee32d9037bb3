-- A run whose open attempt is over, or is told as it stands.
use Rattle.std.proofs.Common.{◌≡◌, ℕ, suc, ◌+◌, ◌*◌, ◌/◌, ◌<◌, ◌≤◌, Bool, true, false, if◌then◌else◌, List, [], ◌∷◌, ◌++◌, length, Some, refl, sym, true≢false, ap, subst, ◌∙◌, arith, append-nil}
use Rattle.worker_rules.proofs.Common.{Account, Attempt, Core, Course, EndsAs, HasRun, IsLeft, IsMadeAlone, IsRunning, IsTryAt, LacksClock, MayRead, Obeys, Outcome, Ran, ReadsFrom, Rules, Stands, State, View, Went, after_try, alone, alone_led, begin_code, begins_at, breaks_of, bytes_at, bytes_of, in_transaction, is_committed, is_done, is_open, known_by, made_alone, memory_of, now_at, opened, positions, ran_of, ran_on, ran_stays, ran_stops, stands_for, stood, stops_as, telling, told_so, try_of_room, try_stops, undone, whole_then}
use Rattle.tx_attempts.specs.Alone.{state_then}
use Rattle.tx_attempts.specs.declared.attempt.Outcome.TheVariants as outcomes
use Rattle.worker_rules.proofs.Runs.LaterCommits.{positions_more, run_later, run_with}
use Rattle.worker_rules.proofs.Machines.PlainStates.{stands_open}
use Rattle.worker_rules.proofs.Shapes.{RanTo, ended_at}

-- ## Outcomes

pub not_committed : (outcome : Outcome) → is_done outcome ≡ false → is_committed outcome ≡ false
not_committed outcomes.Committed e = absurd (true≢false e)
not_committed outcome e = refl

-- one that did not commit has no position
pub positions_same : (xs : List Attempt) (a : Attempt) → is_committed a.outcome ≡ false → positions (xs ++ a ∷ []) ≡ positions xs
positions_same xs a e = positions_more xs a ∙ (ap (λ (b : Bool). positions xs ++ (if b then a.at ∷ [] else [])) e ∙ append-nil (positions xs))

-- what is told as run does not say how an attempt ended
pub ends_told : (outcome : Outcome) (s : State) (ran : List Ran) → EndsAs outcome s → EndsAs outcome (telling s ran)
ends_told outcomes.Committed s ran e = e
ends_told outcome s ran e = e

-- ## The open attempt

module _ {P : Type 0} {rules : Rules P} (laws : Obeys rules) (c : Course P) (t : Account P) (u v : View) (e : Core) (running : IsRunning rules c u e t) (before : Stands u e) (inside : in_transaction e ≡ true) (went : Went u v) where
  -- what its calls led to, as it is told
  abbrev pub led : List ℕ → State
  led memory = state_then c.depth (breaks_of (running.inside inside).row.restarts) (opened memory (running.inside inside).try.is_open.of_block.start.arena (running.inside inside).try.is_open.of_block.start.props) (running.inside inside).row.calls.list

  -- and for the engine
  abbrev pub whole : List ℕ → State
  whole m = whole_then c.depth (running.inside inside).row m (running.inside inside).row.calls.list

  module _ (m : List ℕ) (read : MayRead u e m) where
    pub stood_whole : stands_for e (stood e.irrevocable u m) ≡ whole m
    stood_whole = by_mode e.irrevocable refl read.1
      where
        by_mode : (b : Bool) → e.irrevocable ≡ b → ReadsFrom b (memory_of u (e.snapshot / 2)) e.log m → stands_for e (stood b u m) ≡ whole m
        by_mode false is reads = (running.inside inside).try.is_open.stands is m read.0 reads
        by_mode true is reads = (running.inside inside).try.stands_held is ∙ ap whole (sym reads)

    pub open_whole : is_open (whole m) ≡ true
    open_whole = ap is_open (sym stood_whole) ∙ stands_open e (stood e.irrevocable u m) inside

    pub made_open : IsMadeAlone rules c.depth (running.inside inside).between (running.inside inside).try.is_open.of_block.start (running.inside inside).row (bytes_of m)
    made_open = made_alone (running.inside inside).try.is_open m read.0 read.1 open_whole

    -- by its own fields
    pub alone_told : alone c.depth (bytes_of m) (running.inside inside).row ≡ led (bytes_of m)
    alone_told = alone_led laws c.depth (running.inside inside).try.is_open.of_block (bytes_of m)

    -- both are the same but for what is told as run
    pub led_told : led (bytes_of m) ≡ telling (whole m) (running.inside inside).row.ran
    led_told = sym alone_told ∙ told_so (running.inside inside).try.is_open m read.0 read.1

    -- it is rolled back
    module _ (due : List Ran) (is : due ≡ (undone (stands_for e (stood e.irrevocable u m))).actions.ran) where
      due_whole : due ≡ (undone (whole m)).actions.ran
      due_whole = is ∙ ap (λ (s : State). (undone s).actions.ran) stood_whole

      pub ran_given_up : (outcome : Outcome) → is_done outcome ≡ false → (outcome ≡ outcomes.Unfinished → ⊥) → ran_on (running.inside inside).row.ran (running.inside inside).row.restarts due ≡ ran_of outcome (led (bytes_of m))
      ran_given_up outcome stops ended = ran_stops (running.inside inside).try.is_open m read.0 read.1 outcome due stops ended due_whole

      pub arena_given_up : (undone (alone c.depth (bytes_of m) (running.inside inside).row)).arena ≡ (undone (stands_for e (stood e.irrevocable u m))).arena
      arena_given_up =
          ap (λ (s : State). (undone s).arena) alone_told
          ∙ (ap (λ (s : State). s.arena) (stops_as (running.inside inside).try.is_open m read.0 read.1 due due_whole) ∙ ap (λ (s : State). (undone s).arena) (sym stood_whole))

    -- or it is told as it stands
    pub ran_standing : ran_on (running.inside inside).row.ran (running.inside inside).row.restarts e.actions.ran ≡ ran_of outcomes.Unfinished (led (bytes_of m))
    ran_standing = ran_stays (running.inside inside).try.is_open m read.0 read.1

  -- so often inner blocks ran again in it at most
  few_again : length (running.inside inside).row.restarts ≤ c.restarts
  few_again = (let told = (running.inside inside).try.is_open.few in let made = before.settled.few in let limit = running.limit in omega arith)

  -- the run with it
  pub run_ended : (a : Attempt) → IsTryAt rules c.depth (length v.seen) (bytes_at v) (running.inside inside).between (Some (running.inside inside).try.is_open.of_block.start) a → (is_committed a.outcome ≡ true → IsLeft c.depth v a) → known_by a ≤ length v.seen
      → a.began ≡ (running.inside inside).row.began → a.thread ≡ (running.inside inside).row.thread → a.nth ≡ (running.inside inside).row.nth → a.restarts ≡ (running.inside inside).row.restarts → (a.outcome ≡ outcomes.Conflict → 2 * a.at < v.high)
      → HasRun rules c v (t.ended ++ a ∷ []) × (now_at rules c v (t.ended ++ a ∷ []) ≡ after_try rules c.depth (bytes_at v) (running.inside inside).between (Some (running.inside inside).try.is_open.of_block.start) a)
  run_ended a try left known began thread nth restarts outrun =
      let h = running.inside inside in
      let now = run_later rules c u v went t.ended running.has_run in
      let tries = running.tries in
      let same = h.nth in
      let few : length a.restarts ≤ c.restarts = subst (λ (rs : _). length rs ≤ c.restarts) (sym restarts) few_again in
      let here : IsTryAt rules c.depth (length v.seen) (bytes_at v) h.between (begins_at rules c.depth h.between) a = subst (λ (o : _). IsTryAt rules c.depth (length v.seen) (bytes_at v) h.between o a) (sym h.try.is_open.of_block.begins) try in
      let more = run_with rules c v t.ended h.between a now.0 (now.1 ∙ h.now_is) here left (let k = h.known in let same = began in omega arith) known (thread ∙ h.thread) (omega arith) few outrun in
      (more.0, more.1 ∙ ap (λ (o : _). after_try rules c.depth (bytes_at v) h.between o a) h.try.is_open.of_block.begins)

  -- ## Without a commit

  module _ (k : ℕ) (outcome : Outcome) (due : List Ran) (stops : is_done outcome ≡ false) (read : MayRead u e (memory_of v k)) where
    pub stopped : v.mine ≡ u.mine → EndsAs outcome (stands_for e (stood e.irrevocable u (memory_of v k))) → ran_on (running.inside inside).row.ran (running.inside inside).row.restarts due ≡ ran_of outcome (led (bytes_at v k))
        → (running.inside inside).row.began + length (running.inside inside).row.restarts ≤ k → k ≤ length v.seen → (outcome ≡ outcomes.Conflict → 2 * k < v.high)
        → (outcome ≡ outcomes.Full → LacksClock rules c.depth (rules.answered (running.inside inside).try.is_open.of_block.start.player (begin_code (running.inside inside).between.again)) (running.inside inside).row (bytes_at v k))
        → RanTo rules c v (t.ended ++ ended_at outcome k due (running.inside inside).row ∷ [])
        × (now_at rules c v (t.ended ++ ended_at outcome k due (running.inside inside).row ∷ []) ≡ after_try rules c.depth (bytes_at v) (running.inside inside).between (Some (running.inside inside).try.is_open.of_block.start) (ended_at outcome k due (running.inside inside).row))
    stopped same ends ran_is older newer outrun full =
        let h = running.inside inside in
        let none = not_committed outcome stops in
        let ends_led : EndsAs outcome (led (bytes_at v k)) = subst (EndsAs outcome) (sym (led_told (memory_of v k) read)) (ends_told outcome (whole (memory_of v k)) h.row.ran (subst (EndsAs outcome) (stood_whole (memory_of v k) read) ends)) in
        let mine : v.mine ≡ c.view.mine ++ positions (t.ended ++ ended_at outcome k due h.row ∷ []) = same ∙ (running.mine ∙ ap (λ (ps : List ℕ). c.view.mine ++ ps) (sym (positions_same t.ended (ended_at outcome k due h.row) none))) in
        let ran = run_ended (ended_at outcome k due h.row)
        (try_of_room laws c.depth (length v.seen) (bytes_at v) h.between h.try.is_open.of_block.start (record h.row { at = k; ran = ran_on h.row.ran h.row.restarts due; outcome = outcome }) 0 (try_stops laws c.depth h.try.is_open.of_block (length v.seen) (bytes_at v) k (bytes_at v k) refl outcome (ran_on h.row.ran h.row.restarts due) stops (made_open (memory_of v k) read) ends_led older newer ran_is full))
        (λ committed. absurd (true≢false (sym committed ∙ none))) (subst (λ (b : Bool). (if b then suc k else k) ≤ length v.seen) (sym none) newer) refl refl refl refl outrun in
        ((ran.0, mine), ran.1)
