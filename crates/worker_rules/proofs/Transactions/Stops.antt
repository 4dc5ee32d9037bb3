-- The open attempt ends without its block, or is told as it stands.
use Rattle.std.proofs.Common.{◌≡◌, ℕ, ◌/◌, ◌≤◌, Bool, true, false, List, [], ◌∷◌, ◌++◌, length, map, Option, Some, refl, sym, ap, subst, ◌∙◌, arith, if◌then◌else◌}
use Rattle.worker_rules.proofs.Common.{Account, Actions, Agrees, Answer, Conflict, Core, Course, Full, Idle, IsMemory, IsRunning, IsUndone, LacksClock, MayRead, Obeys, Ran, Rules, Served, Stands, Start, State, View, Went, after, after_try, after_undoing, alone, answered_all, begin_code, bytes_at, closes_as, in_transaction, is_memory, lacks_clock, memory_of, now_at, reply, rolled_back, stands_for, stood, takes_clock, telling, undone, went_self}
use Rattle.tx_attempts.specs.declared.attempt.Outcome.TheVariants as outcomes
use Rattle.run_rules.proofs.GivenUp.{given_up_as}
use Rattle.worker_rules.proofs.Machines.ClockCalls.{wants_revocable, wants_taking}
use Rattle.worker_rules.proofs.Runs.OpenRuns.{alone_told, arena_given_up, led, led_told, made_open, open_whole, ran_given_up, ran_standing, stood_whole, stopped, whole}
use Rattle.worker_rules.proofs.Runs.EarlierReads.{position_read}
use Rattle.worker_rules.proofs.Runs.LaterCommits.{known_more}
use Rattle.worker_rules.proofs.Runs.LaterRuns.{runs_outside}
use Rattle.worker_rules.proofs.Machines.PlainStates.{may_here, stands_actions, stands_arena, stands_mode, stands_open}
use Rattle.worker_rules.proofs.Shapes.{RanTo, RunsTo, ended_at, tried}
use Rattle.tx_attempts.specs.declared.attempt.CallRecord.{CallRecord}

-- ## By an answer

module _ {P : Type 0} {rules : Rules P} (laws : Obeys rules) (c : Course P) (s : Start) (t : Account P) (v : View) (e : Core) (running : IsRunning rules c s.view s.engine t) (before : Stands s.view s.engine) (stands : Stands v e)
    (asks : rules.next_call t.player ≡ Some s.call) (inside : in_transaction s.engine ≡ true) where
  abbrev position : List ℕ
  position = memory_of v (e.snapshot / 2)

  -- a transaction that is not irrevocable is undone
  module _ (a : Answer) (served : Served s a v e) (revocable : s.engine.irrevocable ≡ false) (undone_is : IsUndone s e) where
    stood_same : stood s.engine.irrevocable s.view (memory_of v (e.snapshot / 2)) ≡ memory_of v (e.snapshot / 2)
    stood_same = ap (λ (b : Bool). stood b s.view (memory_of v (e.snapshot / 2))) revocable

    state_undone : stands_for e (memory_of v (e.snapshot / 2)) ≡ undone (stands_for s.engine (stood s.engine.irrevocable s.view (memory_of v (e.snapshot / 2))))
    state_undone =
        undone_is position (subst (λ (n : ℕ). IsMemory n (memory_of v (e.snapshot / 2))) served.words (is_memory e.words v stands.over (e.snapshot / 2)))
        ∙ ap (λ (m : List ℕ). undone (stands_for s.engine m)) (sym stood_same)

    ran_undone : e.actions.ran ≡ (undone (stands_for s.engine (stood s.engine.irrevocable s.view (memory_of v (e.snapshot / 2))))).actions.ran
    ran_undone = ap (λ (x : Actions). x.ran) (sym (stands_actions e position)) ∙ ap (λ (x : State). x.actions.ran) state_undone

  -- in conflict
  module _ (clock : ℕ) (word : Option ℕ) (served : Served s (Conflict clock word) v e) where
    conflict_read : MayRead s.view s.engine (memory_of v (e.snapshot / 2))
    conflict_read = position_read s v e before stands inside (Conflict clock word) served (served.tells.closes.agrees inside)

    conflict_stopped : RanTo rules c v (t.ended ++ ended_at outcomes.Conflict (e.snapshot / 2) e.actions.ran (running.inside inside).row ∷ [])
        × (now_at rules c v (t.ended ++ ended_at outcomes.Conflict (e.snapshot / 2) e.actions.ran (running.inside inside).row ∷ [])
        ≡ after_try rules c.depth (bytes_at v) (running.inside inside).between (Some (running.inside inside).try.is_open.of_block.start) (ended_at outcomes.Conflict (e.snapshot / 2) e.actions.ran (running.inside inside).row))
    conflict_stopped =
        let m : List ℕ = stood s.engine.irrevocable s.view position in
        let late = served.tells.closes.late inside in
        let began = (running.inside inside).try.is_open.began in
        stopped laws c t s.view v s.engine running before inside served.went (e.snapshot / 2) outcomes.Conflict e.actions.ran refl conflict_read served.mine
        (stands_open s.engine m inside, stands_mode s.engine m ∙ served.tells.revocable)
        (ran_given_up laws c t s.view v s.engine running before inside served.went position conflict_read e.actions.ran (ran_undone (Conflict clock word) served served.tells.revocable served.tells.undone) outcomes.Conflict refl (λ x. absurd (cc))) (omega arith) served.tells.closes.seen (λ lost. (let later = served.tells.later in let clock = served.tells.clock_is in let known = stands.over.high in omega arith)) (λ f. absurd (cc))

    pub conflict_run : RanTo rules c v (t.ended ++ ended_at outcomes.Conflict (e.snapshot / 2) e.actions.ran (running.inside inside).row ∷ [])
    conflict_run = conflict_stopped.0

    -- its player goes back to its begin, and the next try is to come
    pub conflicts : RunsTo rules c v e (tried t (rules.restarted t.player) (t.ended ++ ended_at outcomes.Conflict (e.snapshot / 2) e.actions.ran (running.inside inside).row ∷ []))
    conflicts =
        let h = running.inside inside in
        let player : rules.restarted (answered_all rules.answered (rules.answered h.try.is_open.of_block.start.player (begin_code h.between.again)) (map (λ (x : CallRecord). x.reply) h.row.calls.list)) ≡ rules.restarted t.player = ap rules.restarted (sym h.try.is_open.of_block.player) in
        let arena : (undone (alone c.depth (bytes_at v (e.snapshot / 2)) (ended_at outcomes.Conflict (e.snapshot / 2) e.actions.ran h.row))).arena ≡ e.arena =
        arena_given_up laws c t s.view v s.engine running before inside served.went position conflict_read e.actions.ran (ran_undone (Conflict clock word) served served.tells.revocable served.tells.undone)
        ∙ (ap (λ (x : State). x.arena) (sym (state_undone (Conflict clock word) served served.tells.revocable served.tells.undone)) ∙ stands_arena e position) in
        runs_outside conflict_run served.tells.closes.closed (record {
          between = record { player = rules.restarted t.player; arena = e.arena; again = true; tries = h.row.nth };
          stage_is = refl;
          known = (let k = known_more c.known t.ended (ended_at outcomes.Conflict (e.snapshot / 2) e.actions.ran h.row) in let up = stands.settled.reached in let behind = stands.behind in let high = stands.over.high in omega arith);
          now_is = conflict_stopped.1 ∙ (λ i. Some (record { player = player i; arena = arena i; again = true; tries = h.row.nth }));
          before = record { calls = 0; leads = (refl, refl); again = h.again; tries = (let same = h.nth in omega arith) };
          looked = (let looked = h.looked in let looks = served.tells.looks in omega arith);
        })

  -- as full: the clock is wanted, and is not to be had
  module _ (at : ℕ) (served : Served s (Full at) v e) where
    full_revocable : s.engine.irrevocable ≡ false
    full_revocable = wants_revocable s.engine before.settled s.call served.tells.wants

    full_read : MayRead s.view s.engine (memory_of v (e.snapshot / 2))
    full_read =
        position_read s v e before stands inside (Full at) served
        (subst (λ (n : ℕ). Agrees (memory_of v n) s.engine.log) served.tells.closes.at_is (served.tells.closes.agrees inside))

    lacks : LacksClock rules c.depth (rules.answered (running.inside inside).try.is_open.of_block.start.player (begin_code (running.inside inside).between.again)) (running.inside inside).row (bytes_at v (e.snapshot / 2))
    lacks =
        let m : List ℕ = stood s.engine.irrevocable s.view position in
        let stands_whole = stood_whole laws c t s.view v s.engine running before inside served.went position full_read in
        let made = made_open laws c t s.view v s.engine running before inside served.went position full_read in
        let still_open = open_whole laws c t s.view v s.engine running before inside served.went position full_read in
        let due : List Ran = (after c.depth (whole laws c t s.view v s.engine running before inside served.went position) s.call).actions.ran in
        lacks_clock laws c.depth (running.inside inside).try.is_open.of_block (bytes_at v (e.snapshot / 2)) s.call
        (reply c.depth (led laws c t s.view v s.engine running before inside served.went (bytes_at v (e.snapshot / 2))) s.call) made asks refl
        (ap (λ (x : State). x.irrevocable) (led_told laws c t s.view v s.engine running before inside served.went position full_read ∙ ap (λ (x : State). telling x (running.inside inside).row.ran) (sym stands_whole)) ∙ (stands_mode s.engine m ∙ full_revocable))
        (ap takes_clock (closes_as (running.inside inside).try.is_open position full_read.0 full_read.1 s.call due still_open refl)
        ∙ ((λ i. takes_clock (after (sym running.deepest i) (sym stands_whole i) s.call)) ∙ wants_taking s.engine m full_revocable inside s.call served.tells.wants))

    pub full_run : RanTo rules c v (t.ended ++ ended_at outcomes.Full (e.snapshot / 2) e.actions.ran (running.inside inside).row ∷ []) × (s.engine.max_commits ≤ length v.seen)
    full_run =
        let m : List ℕ = stood s.engine.irrevocable s.view position in
        let at_is = served.tells.closes.at_is in
        let seen = served.tells.closes.seen in
        let full = served.tells.full in
        let late = served.tells.closes.late inside in
        let began = (running.inside inside).try.is_open.began in (
          (stopped laws c t s.view v s.engine running before inside served.went (e.snapshot / 2) outcomes.Full e.actions.ran refl full_read served.mine (stands_open s.engine m inside, stands_mode s.engine m ∙ full_revocable)
              (ran_given_up laws c t s.view v s.engine running before inside served.went position full_read e.actions.ran (ran_undone (Full at) served full_revocable served.tells.undone) outcomes.Full refl (λ x. absurd (cc))) (omega arith) (omega arith) (λ lost. absurd (cc)) (λ f. lacks)).0,
          omega arith,
        )

-- ## With no call

module _ {P : Type 0} {rules : Rules P} (laws : Obeys rules) (c : Course P) (s : Start) (t : Account P) (running : IsRunning rules c s.view s.engine t) (before : Stands s.view s.engine) (inside : in_transaction s.engine ≡ true) where
  -- it is given up for want of memory
  pub starved_run : (v : View) (e : Core) → s.engine.irrevocable ≡ false → e ≡ after_undoing s.engine → v ≡ s.view → RanTo rules c v (t.ended ++ ended_at outcomes.NoMemory (e.snapshot / 2) e.actions.ran (running.inside inside).row ∷ [])
  starved_run v e revocable is same =
      let free : s.engine.holds ≡ false = before.mode ∙ revocable in
      let snapshot : e.snapshot ≡ s.engine.snapshot = ap (λ (x : Core). x.snapshot) is ∙ ap (λ (h : Bool). (if h then s.engine else record (rolled_back s.engine) { stage = Idle; tries = 0 }).snapshot) free in
      let m : List ℕ = stood s.engine.irrevocable s.view (memory_of v (e.snapshot / 2)) in
      let went : Went s.view v = subst (Went s.view) (sym same) (went_self s.view) in
      let read : MayRead s.view s.engine (memory_of v (e.snapshot / 2)) = subst (MayRead s.view s.engine) (λ i. memory_of (sym same i) (sym snapshot i / 2)) (may_here s.view s.engine before inside) in
      let began = (running.inside inside).try.is_open.began in
      let count = (before.reads inside).count in
      let seen = ap (λ (x : View). length x.seen) same in
      (stopped laws c t s.view v s.engine running before inside went (e.snapshot / 2) outcomes.NoMemory e.actions.ran refl read (ap (λ (x : View). x.mine) same) (stands_open s.engine m inside, stands_mode s.engine m ∙ revocable)
      (ran_given_up laws c t s.view v s.engine running before inside went (memory_of v (e.snapshot / 2)) read e.actions.ran (given_up_as s.engine e m free revocable is) outcomes.NoMemory refl (λ x. absurd (cc))) (omega arith) (omega arith) (λ lost. absurd (cc)) (λ f. absurd (cc))).0

  -- the thread stops, and it is told as it stands
  pub unfinished_run : RanTo rules c s.view (t.ended ++ ended_at outcomes.Unfinished (s.engine.snapshot / 2) s.engine.actions.ran (running.inside inside).row ∷ [])
  unfinished_run =
      let h = running.inside inside in
      let m : List ℕ = stood s.engine.irrevocable s.view (memory_of s.view (s.engine.snapshot / 2)) in
      let read = may_here s.view s.engine before inside in
      let count = (before.reads inside).count in
      (stopped laws c t s.view s.view s.engine running before inside (went_self s.view) (s.engine.snapshot / 2) outcomes.Unfinished s.engine.actions.ran refl read refl (stands_open s.engine m inside)
      (ran_standing laws c t s.view s.view s.engine running before inside (went_self s.view) (memory_of s.view (s.engine.snapshot / 2)) read) h.try.is_open.began (omega arith) (λ lost. absurd (cc)) (λ f. absurd (cc))).0

  -- and whether it is irrevocable, by its calls alone
  pub unfinished_mode : (alone c.depth (bytes_at s.view (s.engine.snapshot / 2)) (running.inside inside).row).irrevocable ≡ s.engine.irrevocable
  unfinished_mode =
      let here : List ℕ = memory_of s.view (s.engine.snapshot / 2) in
      let read = may_here s.view s.engine before inside in
      ap (λ (x : State). x.irrevocable)
      (alone_told laws c t s.view s.view s.engine running before inside (went_self s.view) here read
      ∙ (led_told laws c t s.view s.view s.engine running before inside (went_self s.view) here read ∙ ap (λ (x : State). telling x (running.inside inside).row.ran) (sym (stood_whole laws c t s.view s.view s.engine running before inside (went_self s.view) here read))))
      ∙ stands_mode s.engine (stood s.engine.irrevocable s.view here)
