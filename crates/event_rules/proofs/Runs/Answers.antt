-- An actor's run, once an answer is recorded.
use Rattle.std.proofs.Common.{◌≡◌, ℕ, ◌/◌, ◌%◌, ◌<◌, ◌≤◌, Bool, true, false, List, [], ◌∷◌, ◌++◌, Option, None, Some, refl, sym, true≢false, ap, subst, ◌∙◌, arith, inl, inr}
use Rattle.event_rules.proofs.Common.{Actions, Actor, Agrees, Answers, Attempt, Between, Call, Cells, Core, End, GaveUp, IsBeforeTry, IsInTry, IsMadeAlone, IsMemory, IsOpenTry, IsRun, IsRunOf, IsTied, IsTryAt, NoMemory, Obeys, Ran, ReadsFrom, Replied, Reply, Restarted, Rows, Rules, RunsFrom, Savepoint, State, TellsRoom, active_of, after, after_try, alone_whole, append-nil, before_same, breaks_of, bytes_at, cut_back, ending_of, in_transaction, is_cut, is_open, none-some, of_thread, of_thread_own, open_in, opened, pending_of, plainly, ran_on, reply_cases, run_after, run_with, savepoints_after, stage_of, stands_actions, state_then, taken_at, told_again, told_nth, told_player, told_stage, with_call, within, words_at}
use Rattle.run_rules.{proofs.TriesBack.back_on, proofs.TriesHeld.enters_on, proofs.TriesHeld.held_on, proofs.TriesReply.replies_on}
use Rattle.event_rules.proofs.Commits.SeenMemories.{HasSeen, memory_at}
use Rattle.event_rules.proofs.Engines.Intakes.{HasAnswered, half_same, read_late}
use Rattle.event_rules.proofs.Engines.HeldMoves.{HasHeld}
use Rattle.event_rules.proofs.Rooms.FedPlayers.{Comes, fed_by}

pub top : (n : ℕ) → n ≤ n
top n = omega arith

-- a player before its try stays there while no call of it is answered, and no begin of it comes
pub before_as : {P : Type 0} {rules : Rules P} {deepest n n' : ℕ} {b : Between P} {a : Actor P} (a' : Actor P) → IsBeforeTry rules deepest n b a → n ≤ n' → a'.run.player ≡ a.run.player → a'.run.again ≡ a.run.again → a'.run.nth ≡ a.run.nth → a'.engine.arena ≡ a.engine.arena → a'.engine.again ≡ a.engine.again
    → ((row : Attempt) → pending_of a' ≡ Some row → pending_of a ≡ Some row) → IsBeforeTry rules deepest n' b a'
before_as a' k later player again nth arena anew pending = record {
  before = before_same k.before player arena again (omega (arith, nth));
  pending = λ row is. (let p = k.pending row (pending row is) in (omega (arith, p.0, later), p.1 ∙ sym arena, p.2, p.3, λ may. p.4 may ∙ (λ i. Some (record { player = sym player i; arena = sym arena i; props = row.props })), anew ∙ p.5, p.6));
}

-- the run of the thread over these attempts, where it stands then, and both under other names
module _ {P : Type 0} (rules : Rules P) (first : Between P) (deepest : ℕ) (base : List ℕ) where
  abbrev pub RunOf : ℕ → List Attempt → ℕ → Type 0
  RunOf n ended thread = IsRunOf rules deepest n (bytes_at deepest base ended) (Some first) (of_thread thread ended)

  abbrev pub now_at : List Attempt → ℕ → Option (Between P)
  now_at ended thread = run_after rules deepest (bytes_at deepest base ended) (Some first) (of_thread thread ended)

  pub run_same : (n : ℕ) (xs ys : List Attempt) (t u : ℕ) → ys ≡ xs → u ≡ t → RunOf n xs t → RunOf n ys u
  run_same n xs ys t u e f h = subst (λ (l : List Attempt). RunOf n l u) (sym e) (subst (RunOf n xs) (sym f) h)

  -- the attempt that is open, and the inner blocks
  abbrev Goes : ℕ → List Attempt → Between P → Actor P → Attempt → Type 0
  Goes n ended b a row =
      (row' : Attempt) × (points' : List Savepoint) × (stage_of a.run.current ≡ within row' points') × (row'.nth ≡ row.nth) × IsInTry rules deepest (words_at deepest base ended n) b row' points' a.run.player a.engine

  -- it goes on as it was, where nothing is answered
  pub run_on : {n n' : ℕ} {r r' : Rows} {a : Actor P} (a' : Actor P) → IsRun rules first deepest base n r a → RunOf n' r'.ended a'.run.thread → now_at r'.ended a'.run.thread ≡ now_at r.ended a.run.thread → in_transaction a'.engine ≡ in_transaction a.engine → a'.run.again ≡ a.run.again → a'.run.nth ≡ a.run.nth
      → ((end : End) → ending_of a.status ≡ Some end → ending_of a'.status ≡ Some end)
      → ((b : Between P) (row : Attempt) (points : List Savepoint) → in_transaction a.engine ≡ true → stage_of a.run.current ≡ within row points → IsInTry rules deepest (words_at deepest base r.ended n) b row points a.run.player a.engine → Goes n' r'.ended b a' row)
      → ((b : Between P) → in_transaction a.engine ≡ false → IsBeforeTry rules deepest n b a → IsBeforeTry rules deepest n' b a') → IsRun rules first deepest base n' r' a'
  run_on a' x run now same again nth going tries before = record {
    run = run;
    inside = λ o. (let t = x.inside (sym same ∙ o) in let y = tries t.0 t.1 t.3 (sym same ∙ o) t.4 t.5 in (t.0, y.0, now ∙ t.2, y.1, y.2, y.4, again ∙ t.6, y.3 ∙ (t.7 ∙ sym nth)));
    between = λ o gave_up starved. (let t = x.between (sym same ∙ o) (λ e. gave_up (going GaveUp e)) (λ e. starved (going NoMemory e)) in (t.0, now ∙ t.1, before t.0 (sym same ∙ o) t.2));
  }

  module _ {n : ℕ} {r : Rows} {a : Actor P} (run : RunOf n r.ended a.run.thread) where
    -- a transaction is open
    pub open_run : in_transaction a.engine ≡ true → (b : Between P) (row : Attempt) (points : List Savepoint) → now_at r.ended a.run.thread ≡ Some b → stage_of a.run.current ≡ within row points → IsInTry rules deepest (words_at deepest base r.ended n) b row points a.run.player a.engine → a.run.again ≡ true → row.nth ≡ a.run.nth
        → IsRun rules first deepest base n r a
    open_run inside b row points now here try again nth = record { run = run; inside = λ o. (b, row, now, points, here, try, again, nth); between = λ o. absurd (true≢false (sym inside ∙ o)) }

    -- none is
    pub shut_run : in_transaction a.engine ≡ false → (b : Between P) → now_at r.ended a.run.thread ≡ Some b → ((ending_of a.status ≡ Some GaveUp → ⊥) → IsBeforeTry rules deepest n b a) → IsRun rules first deepest base n r a
    shut_run shut b now before = record { run = run; inside = λ o. absurd (true≢false (sym o ∙ shut)); between = λ o gave_up starved. (b, now, before gave_up) }

    -- nor has the player called anything since
    pub rests_run : in_transaction a.engine ≡ false → (again : Bool) (tries : ℕ) → now_at r.ended a.run.thread ≡ Some (record { player = a.run.player; arena = a.engine.arena; again = again; tries = tries }) → a.run.again ≡ again → ((ending_of a.status ≡ Some GaveUp → ⊥) → tries < a.run.nth) → pending_of a ≡ None
        → IsRun rules first deepest base n r a
    rests_run shut again tries now was few nothing =
        shut_run shut (record { player = a.run.player; arena = a.engine.arena; again = again; tries = tries }) now (λ gave_up. record { before = record { calls = 0; leads = (refl, refl); again = was; tries = few gave_up }; pending = λ row e. absurd (none-some row (sym nothing ∙ e)) })

    -- the player has given up
    pub gave_run : in_transaction a.engine ≡ false → ending_of a.status ≡ Some GaveUp → IsRun rules first deepest base n r a
    gave_run shut gave = record { run = run; inside = λ o. absurd (true≢false (sym o ∙ shut)); between = λ o gave_up starved. absurd (gave_up gave) }

-- an actor with no open transaction has seen nothing that could change
pub idle_from : {P : Type 0} {rules : Rules P} {first : Between P} {deepest : ℕ} {base : List ℕ} {cells : Cells} {r : Rows} {a : Actor P} → a.engine.depth ≡ deepest → IsRun rules first deepest base (cells.clock / 2) r a → in_transaction a.engine ≡ false
    → a.engine.fresh ≡ [] → a.engine.holds ≡ false → a.engine.irrevocable ≡ false → active_of a ≡ None → (TellsRoom rules first.player → Comes rules first.player a.run.player) → RunsFrom rules first deepest base cells r a
idle_from {rules = rules} {first = first} {a = a} depth run shut fresh free revocable none comes = record {
  depth = depth;
  runs = run;
  sees = record {
    loaded = record { fresh = λ even same f. subst (Agrees _) (sym fresh) tt; held = λ h. absurd (true≢false (sym h ∙ free)); got = λ h. absurd (true≢false (sym h ∙ free)) };
    logged = λ o. absurd (true≢false (sym o ∙ shut));
  };
  held = λ i. absurd (true≢false (sym i ∙ revocable));
  starved = λ e r. shut;
  reads = λ row e. absurd (none-some row (sym none ∙ e));
  fed = λ told. fed_by rules first.player a (comes told) (λ h. absurd (true≢false (sym h ∙ revocable))) (λ e. revocable);
}

module _ {P : Type 0} {rules : Rules P} (laws : Obeys rules) {first : Between P} {base : List ℕ} (cells : Cells) {r : Rows} (r1 : Rows) {mid : Core} (a last : Actor P) (call : Call) (run : IsRun rules first mid.depth base (cells.clock / 2) r (record a { engine = mid })) where
  abbrev n : ℕ
  n = cells.clock / 2

  -- the words of its position
  abbrev position : List ℕ
  position = words_at mid.depth base r.ended (cells.clock / 2)

  -- who holds the clock reads where the clock stands
  pub held_position : {cells' : Cells} → IsTied cells' a.engine → a.engine.holds ≡ true → a.engine.clock ≡ mid.clock → cells'.clock / 2 ≡ cells.clock / 2 → (mid.clock ≡ mid.snapshot) × (mid.snapshot % 2 ≡ 0) → mid.snapshot / 2 ≡ cells.clock / 2
  held_position tied holds clock half taken = (let h = tied.holder holds in omega (arith, clock, half, taken.0, taken.1))

  module _ (inside : in_transaction mid ≡ true) where
    -- the open attempt
    abbrev pub try_at : IsOpenTry rules mid.depth (words_at mid.depth base r.ended (cells.clock / 2)) (run.inside inside).0 (run.inside inside).1 (run.inside inside).3 a.run.player mid
    try_at = (run.inside inside).5.open_try

    -- the plain state that its calls so far lead to from these bytes, as they are told, and as they were for the engine
    abbrev pub led : List ℕ → State
    led memory = state_then mid.depth (breaks_of (run.inside inside).1.restarts) (opened memory (run.inside inside).5.open_try.of_block.start.arena (run.inside inside).5.open_try.of_block.start.props) (run.inside inside).1.calls.list

    abbrev pub whole_led : List ℕ → State
    whole_led memory = alone_whole mid.depth memory (run.inside inside).1

    abbrev pub Made : List ℕ → Type 0
    Made memory = IsMadeAlone rules mid.depth (run.inside inside).0 (run.inside inside).5.open_try.of_block.start (run.inside inside).1 memory

    -- what is told of the actions, where these have come to run
    abbrev pub told_ran : List Ran → List Ran
    told_ran due = ran_on (run.inside inside).1.ran (run.inside inside).1.restarts due

    -- an irrevocable one has read the words of the last position
    pub reads_last : mid.irrevocable ≡ true → ReadsFrom mid.irrevocable (words_at mid.depth base r.ended (cells.clock / 2)) mid.log (words_at mid.depth base r.ended (cells.clock / 2))
    reads_last held = subst (λ (i : Bool). ReadsFrom i position mid.log position) (sym held) refl

  -- ## An attempt ends

  -- the run with it, over perhaps more commits
  module _ (n' : ℕ) (later : cells.clock / 2 ≤ n') (still : (k : ℕ) → k ≤ cells.clock / 2 → bytes_at mid.depth base r1.ended k ≡ bytes_at mid.depth base r.ended k) (inside : in_transaction mid ≡ true) where
    pub ended_run : (over : Attempt) → over.thread ≡ a.run.thread → r1.ended ≡ r.ended ++ over ∷ [] → last.run.thread ≡ a.run.thread → IsTryAt rules mid.depth n' (bytes_at mid.depth base r1.ended) (run.inside inside).0 (Some (run.inside inside).5.open_try.of_block.start) over
        → RunOf rules first mid.depth base n' r1.ended last.run.thread
        × (now_at rules first mid.depth base r1.ended last.run.thread ≡ after_try rules mid.depth (bytes_at mid.depth base r1.ended) (run.inside inside).0 (Some (run.inside inside).5.open_try.of_block.start) over)
    ended_run over mine ended thread try =
        let t = run.inside inside in
        let block = t.5.open_try.of_block in
        let more = run_with rules mid.depth n n' (bytes_at mid.depth base r.ended) (bytes_at mid.depth base r1.ended) later still (Some first) (of_thread a.run.thread r.ended) t.0 block.start over run.run t.2 block.begins try in
        let rows : of_thread last.run.thread r1.ended ≡ of_thread a.run.thread r.ended ++ over ∷ [] = (λ i. of_thread (thread i) (ended i)) ∙ of_thread_own a.run.thread r.ended over mine in
        (subst (IsRunOf rules mid.depth n' (bytes_at mid.depth base r1.ended) (Some first)) (sym rows) more.0, ap (run_after rules mid.depth (bytes_at mid.depth base r1.ended) (Some first)) rows ∙ more.1)

  -- ## A call of an open transaction is answered, and it stays open

  module _ {cells' : Cells} (seen : HasSeen mid.depth base cells cells' r mid a.engine) where
    -- some memory agrees with what is logged then
    agreed_now : in_transaction a.engine ≡ true → a.engine.snapshot / 2 ≤ cells.clock / 2 → (m : List ℕ) × IsMemory mid.words m × Agrees m a.engine.log
    agreed_now o late = (words_at mid.depth base r.ended (a.engine.snapshot / 2), memory_at seen (a.engine.snapshot / 2) late, seen.now o)

    module _ (reply : Replied) (m : HasAnswered rules true cells cells' r r1 mid a last call (Reply reply)) (held : HasHeld mid.depth base cells cells' r (active_of a) mid a.engine call (Answers (Reply reply))) (opened_now : in_transaction last.engine ≡ true) where
      abbrev inside : in_transaction mid ≡ true
      inside = m.taken.was_is

      abbrev was_row : Attempt
      was_row = (run.inside m.taken.was_is).1

      abbrev Tried : Core → Type 0
      Tried e = IsOpenTry rules mid.depth (words_at mid.depth base r.ended (cells.clock / 2)) (run.inside m.taken.was_is).0 (record (with_call call reply (run.inside m.taken.was_is).1) { ran = ran_on (run.inside m.taken.was_is).1.ran (run.inside m.taken.was_is).1.restarts e.actions.ran })
          (savepoints_after (run.inside m.taken.was_is).3 (run.inside m.taken.was_is).1 (record { call = call; reply = reply })) (rules.answered a.run.player reply) e

      now : in_transaction a.engine ≡ true
      now = ap in_transaction (sym m.settled.engine) ∙ opened_now

      open_try : Tried a.engine × (a.engine.again ≡ false)
      open_try = elim (reply_cases mid a.engine call reply m.taken.doing m.ends) [
        | inl g ↦
            (let revocable : a.engine.irrevocable ≡ false = ap (λ (c : Core). c.irrevocable) g.stays ∙ g.revocable in
            let more = seen.longer (ap (λ (c : Core). c.restarted) g.stays) now revocable in
            (replies_on laws (try_at inside) position a.engine call reply m.answered.in_call.asks g refl (run.inside inside).5.anew inside now more.0 more.1 (agreed_now now (read_late m refl)) (seen.read g.revocable) (seen.up inside), ap (λ (c : Core). c.again) g.stays))
        | inr (inl g) ↦
            (let same = held_position m.taken.tied (ap (λ (c : Core). c.holds) g.stays ∙ g.held) (ap (λ (c : Core). c.clock) g.stays) (half_same m refl) g.taken in
            let agrees : Agrees position mid.log = subst (λ (k : ℕ). Agrees (words_at mid.depth base r.ended k) mid.log) same (seen.logged inside) in
            (enters_on laws (try_at inside) position a.engine call reply m.answered.in_call.asks g refl (run.inside inside).5.anew inside now (memory_at seen n (top n)) agrees, ap (λ (c : Core). c.again) g.stays))
        | inr (inr g) ↦
            (let active = ap open_in (run.inside inside).4 in
            let bytes = sym (seen.laid.memories.same n (top n)) in
            let comes = held.comes g.irrevocable was_row active in
            let whole = ap (λ (x : List ℕ). alone_whole mid.depth x was_row) bytes in
            let left = sym (ap (λ (x : Actions). x.ran) (stands_actions a.engine cells'.words)) ∙ ap (λ (s : State). s.actions.ran) comes.0 in (
              held_on laws (try_at inside) position a.engine call reply m.answered.in_call.asks g m.taken.depth inside (memory_at seen n (top n)) refl
                  (ap is_open (sym whole) ∙ held.still_open g.irrevocable was_row active) (comes.1 ∙ ap (λ (s : State). plainly mid.depth s call) whole) (left ∙ ap (λ (s : State). (after mid.depth s call).actions.ran) whole),
              ap (λ (c : Core). c.again) g.stays,
            ))
      ]

      pub reply_runs : IsRun rules first mid.depth base (cells.clock / 2) r1 last
      reply_runs =
          let t = run.inside inside in
          let x = taken_at m.told t.4 opened_now in
          let ended : r1.ended ≡ r.ended = x.ended ∙ append-nil r.ended in
          let row : Attempt = record (with_call call reply t.1) { ran = ran_on t.1.ran t.1.restarts last.engine.actions.ran } in
          let points : List Savepoint = savepoints_after t.3 t.1 (record { call = call; reply = reply }) in
          open_run rules first mid.depth base (run_same rules first mid.depth base n r.ended r1.ended a.run.thread last.run.thread ended m.settled.thread run.run) opened_now t.0 row points
          ((λ i. now_at rules first mid.depth base (ended i) (m.settled.thread i)) ∙ t.2) (told_stage x)
          (record {
            open_try = subst (λ (xs : List Attempt). IsOpenTry rules mid.depth (words_at mid.depth base xs (cells.clock / 2)) t.0 row points last.run.player last.engine) (sym ended)
                (subst (λ (q : P). IsOpenTry rules mid.depth position t.0 row points q last.engine) (sym (told_player x)) (subst Tried (sym m.settled.engine) open_try.0));
            anew = ap (λ (c : Core). c.again) m.settled.engine ∙ open_try.1;
          })
          (told_again x ∙ t.6) (t.7 ∙ sym (told_nth x))

    -- ### Its innermost block goes back to its begin

    module _ (clock word : ℕ) (m : HasAnswered rules true cells cells' r r1 mid a last call (Restarted clock word)) where
      pub back_runs : IsRun rules first mid.depth base (cells.clock / 2) r1 last
      back_runs =
          let inside = m.taken.was_is in
          let g = m.ends in
          let t = run.inside inside in
          let now : in_transaction last.engine ≡ true = ap in_transaction m.settled.engine ∙ m.answered.fits.1 in
          let x = taken_at m.told t.4 now in
          let ended : r1.ended ≡ r.ended = x.ended ∙ append-nil r.ended in
          let back = back_on position a.engine clock word g m.answered.nested.blocks m.taken.tied.settled.even (seen.read g.revocable) (agreed_now m.answered.fits.1 (read_late m refl)) (try_at inside) in
          let Back : Core → P → List Attempt → Type 0 = λ e q xs. IsOpenTry rules mid.depth (words_at mid.depth base xs (cells.clock / 2)) t.0 (cut_back t.3 e.arena e.actions.ran t.1) t.3 q e in
          open_run rules first mid.depth base (run_same rules first mid.depth base n r.ended r1.ended a.run.thread last.run.thread ended m.settled.thread run.run) now t.0 (cut_back t.3 last.engine.arena last.engine.actions.ran t.1) t.3
          ((λ i. now_at rules first mid.depth base (ended i) (m.settled.thread i)) ∙ t.2) (told_stage x)
          (record {
            open_try = subst (λ (xs : List Attempt). Back last.engine last.run.player xs) (sym ended) (subst (λ (q : P). Back last.engine q r.ended) (sym (told_player x)) (subst (λ (e : Core). Back e (rules.at_block a.run.player (rules.depth a.run.player)) r.ended) (sym m.settled.engine) back));
            anew = ap (λ (c : Core). c.again) (m.settled.engine ∙ g.stays);
          })
          (told_again x ∙ t.6) ((is_cut t.3 last.engine.arena last.engine.actions.ran t.1).same.nth ∙ (t.7 ∙ sym (told_nth x)))
