-- An actor's run, once its attempt has ended.
use Rattle.std.proofs.Common.{◌≡◌, ℕ, ◌+◌, ◌/◌, ◌≤◌, Bool, true, false, if◌then◌else◌, List, [], ◌∷◌, ◌++◌, length, map, Option, Some, refl, sym, true≢false, ap, subst, ◌∙◌, arith, inl, inr}
use Rattle.event_rules.proofs.Common.{Actions, Actor, Agrees, Answers, AreLaid, Attempt, Between, Call, CallRecord, Cells, ClosedBy, ComesTo, Commit, Committed, Conflict, Conflicts, ConflictsIn, Core, Done, EndsAs, Full, IsMemory, IsOpenTry, IsRun, LacksClock, Next, Obeys, Outcome, Ran, ReadsFrom, Replied, Reply, Rows, Rules, State, TakesTo, Tally, WantsClock, active_of, after, after_try, agree_reads, alone, alone_led, alone_whole, answered_all, backed, begin_code, begun_in, by_wrote, bytes_at, bytes_of, cancelled, cancels, cases_Bool, closed as closed_by, closes_as, closing_after, closing_left, commit_reply, ending_as, ending_of, false_from_ne_true, in_transaction, is_done, is_open, is_tried, lacks_clock, made_alone, open_in, open_so, plain_reply, plainly, ran_of, ran_stops, reply_as, row_is_of, spent, stand_at, stands_actions, stands_arena, stands_for, stands_mode, stands_open, state_in, stays_as, stops_as, taken_at, takes_clock, tally_at, told_again, told_nth, told_pending, told_plainly, told_player, try_closes, try_of_room, try_stops, undone, with_call, within, within_at, words_at}
use Rattle.norec_core.{specs.Effects.recoded, proofs.Engines.Machines.commits}
use Rattle.tx_attempts.specs.declared.attempt.Outcome.TheVariants as outcomes
use Rattle.event_rules.proofs.Engines.HeldMoves.{CommitsTo, HasHeld}
use Rattle.run_rules.proofs.ClockCalls.{wants_taking}
use Rattle.event_rules.proofs.Runs.Answers.{Made, RunOf, ended_run, gave_run, led, now_at, reads_last, rests_run, told_ran, whole_led}
use Rattle.tx_attempts.proofs.ToldRuns.{telling}
use Rattle.event_rules.proofs.Commits.SeenMemories.{HasSeen}
use Rattle.event_rules.proofs.Engines.Intakes.{HasAnswered}
use Rattle.event_rules.proofs.Tries.TryEnds.{next_try}

-- the attempt once it has committed
abbrev pub committed_row : Bool → ℕ → Core → Call → Attempt → Attempt
committed_row wrote at e call row = record (ending_as (if wrote then outcomes.Committed else outcomes.ReadOnly) (stand_at false e) (with_call call Done row)) { at = at }

module _ {P : Type 0} {rules : Rules P} (laws : Obeys rules) {first : Between P} {base : List ℕ} {cells : Cells} {r : Rows} (r1 : Rows) {mid : Core} (a last : Actor P) (call : Call)
    (laid : AreLaid mid.depth base cells r) (words_are : mid.words ≡ length cells.words) (run : IsRun rules first mid.depth base (cells.clock / 2) r (record a { engine = mid }))
    (n' : ℕ) (later : cells.clock / 2 ≤ n') (still : (k : ℕ) → k ≤ cells.clock / 2 → bytes_at mid.depth base r1.ended k ≡ bytes_at mid.depth base r.ended k) (inside : in_transaction mid ≡ true) where
  -- the words of a position, and the bytes that they are after it
  abbrev words_k : ℕ → List ℕ
  words_k k = words_at mid.depth base r.ended k

  bytes_here : (k : ℕ) → k ≤ cells.clock / 2 → bytes_at mid.depth base r1.ended k ≡ bytes_of (words_at mid.depth base r.ended k)
  bytes_here k newer = still k newer ∙ sym (laid.memories.same k newer)

  memory_here : (k : ℕ) → k ≤ cells.clock / 2 → IsMemory mid.words (words_at mid.depth base r.ended k)
  memory_here k newer = (let f = laid.memories.fits k newer in (f.0 ∙ sym words_are, f.1))

  abbrev try_in : IsOpenTry rules mid.depth (words_at mid.depth base r.ended (cells.clock / 2)) (run.inside inside).0 (run.inside inside).1 (run.inside inside).3 a.run.player mid
  try_in = (run.inside inside).5.open_try

  -- the plain state that its calls so far lead to from them, and whether they are made alone then
  abbrev led_at : ℕ → State
  led_at k = led laws cells r1 a last call run inside (bytes_of (words_at mid.depth base r.ended k))

  -- as it was for the engine
  abbrev whole_k : ℕ → State
  whole_k k = whole_led laws cells r1 a last call run inside (bytes_of (words_at mid.depth base r.ended k))

  -- what is told as run
  abbrev told : Core → List Ran
  told e = told_ran laws cells r1 a last call run inside e.actions.ran

  abbrev MadeAt : ℕ → Type 0
  MadeAt k = Made laws cells r1 a last call run inside (bytes_of (words_at mid.depth base r.ended k))

  abbrev row : Attempt
  row = (run.inside inside).1

  -- ## By its last call

  -- it is made alone on the memory of this position, and ends the block
  module _ (reply : Replied) (at : ℕ) (outcome : Outcome) (done : is_done outcome ≡ true) (made : Made laws cells r1 a last call run inside (bytes_of (words_at mid.depth base r.ended at))) (asks : rules.next_call a.run.player ≡ Some call)
      (replied : reply ≡ plainly mid.depth (led laws cells r1 a last call run inside (bytes_of (words_at mid.depth base r.ended at))) call) (mine : (run.inside inside).1.thread ≡ a.run.thread) where
    closed_runs : TakesTo (closed_by (record (tally_at a (within_at a (with_call call reply (run.inside inside).1))) { player = rules.answered a.run.player reply }) outcome (stand_at false last.engine)) r r1 a last
        → r1.ended ≡ r.ended ++ record (run.inside inside).1 { calls = record { list = (run.inside inside).1.calls.list ++ record { call = call; reply = reply } ∷ []; room = 0 }; at = at; ran = told a.engine; outcome = outcome } ∷ []
        → last.run.thread ≡ a.run.thread → in_transaction last.engine ≡ false → (run.inside inside).1.began + length (run.inside inside).1.restarts ≤ at → at ≤ cells.clock / 2 → EndsAs outcome (after mid.depth (led_at at) call) → ClosedBy outcome ((run.inside inside).1.calls.list ++ record { call = call; reply = reply } ∷ [])
        → told a.engine ≡ ran_of outcome (after mid.depth (led_at at) call) → (after mid.depth (led_at at) call).arena ≡ last.engine.arena → IsRun rules first mid.depth base n' r1 last
    closed_runs x rows thread shut older newer ends closed ran arena =
        let t = run.inside inside in
        let block = t.5.open_try.of_block in
        let memory : ℕ → List ℕ = bytes_at mid.depth base r1.ended in
        let over : Attempt = record t.1 { calls = record { list = t.1.calls.list ++ record { call = call; reply = reply } ∷ []; room = 0 }; at = at; ran = told a.engine; outcome = outcome } in
        let try = try_closes laws mid.depth block (bytes_of (words_k at)) call reply made asks replied 0 n' memory at outcome (told a.engine) (bytes_here at newer) older (omega (arith, newer, later)) ends closed ran
        (λ full. absurd (true≢false (sym done ∙ ap is_done full))) in
        let ended = ended_run laws cells r1 a last call run n' later still inside over mine rows thread try in
        rests_run rules first mid.depth base ended.0 shut false 0
        (ended.1 ∙ (closing_after laws mid.depth block (bytes_of (words_k at)) call reply made asks replied 0 at outcome (told a.engine) memory (bytes_here at newer) done ∙ (λ i. Some (record { player = sym (told_player x) i; arena = arena i; again = false; tries = 0 }))))
        (told_again x) (λ gave_up. omega (arith, told_nth x)) (told_pending x)

  -- ## By its commit

  module _ {cells' : Cells} (seen : HasSeen mid.depth base cells cells' r mid a.engine) (at : ℕ) (wrote : Bool) (m : HasAnswered rules true cells cells' r r1 mid a last call (Committed at wrote)) (held : HasHeld mid.depth base cells cells' r (active_of a) mid a.engine call (Answers (Committed at wrote))) where
    at_most : at ≤ cells.clock / 2
    at_most = (let is = m.ends.at_is in let late = seen.late in omega arith)

    -- a writer's commit is at the position of the clock
    here_now : wrote ≡ true → at ≡ cells.clock / 2
    here_now w = (let x = m.taken.moves.frees (m.ends.freed ∙ w) in let is = m.ends.at_is in omega (arith, x.0))

    abbrev Parts : Type 0
    Parts = CommitsTo cells' a.engine wrote (after mid.depth (whole_k at) call) × MadeAt at × (after mid.depth (led_at at) call ≡ telling (after mid.depth (whole_k at) call) (told a.engine)) × (plainly mid.depth (whole_k at) call ≡ plainly mid.depth (led_at at) call)

    -- it read the memory of that position, on which its calls leave the block open
    parts_by : ReadsFrom mid.irrevocable (words_at mid.depth base r.ended (cells.clock / 2)) mid.log (words_at mid.depth base r.ended at) → is_open (whole_k at) ≡ true → CommitsTo cells' a.engine wrote (after mid.depth (whole_k at) call) → Parts
    parts_by reads still_open comes =
        let words : List ℕ = words_at mid.depth base r.ended at in
        let mem = memory_here at at_most in
        (comes, made_alone try_in words mem reads still_open, closes_as try_in words mem reads call a.engine.actions.ran still_open (ap (λ (x : Actions). x.ran) comes.actions_is), reply_as try_in words mem reads call)

    open_parts : mid.irrevocable ≡ false → Parts
    open_parts revocable =
        let words : List ℕ = words_at mid.depth base r.ended at in
        let mem = memory_here at at_most in
        let agrees : Agrees words mid.log = subst (λ (k : ℕ). Agrees (words_at mid.depth base r.ended k) mid.log) (sym m.ends.at_is) (seen.logged inside) in
        let stands = try_in.stands revocable words mem agrees in
        let reads = agree_reads (words_at mid.depth base r.ended (cells.clock / 2)) mid.irrevocable mid.log words revocable agrees in
        parts_by reads (open_so try_in words mem reads revocable inside) (subst (CommitsTo cells' a.engine wrote) (λ i. after mid.depth (stands i) (sym m.answered.fits.2 i)) (record {
          closes = ap (λ (b : Bool). is_open (after mid.depth (state_in b mid.writes mid.blocks mid.arena mid.actions words) Commit)) revocable ∙ ap is_open (commits mid.depth mid.writes mid.blocks mid.arena mid.actions words m.ends.outermost);
          wrote_is = m.ends.wrote_is words mem agrees;
          arena_is = m.ends.arena_is words;
          actions_is = m.ends.actions_is words;
          memory_is = λ w. ap bytes_of (seen.freed (m.ends.freed ∙ w) revocable ∙ ap (λ (k : ℕ). backed mid (words_at mid.depth base r.ended k)) (sym (here_now w))) ∙ m.ends.memory_is words mem agrees;
        }))

    held_parts : mid.irrevocable ≡ true → Parts
    held_parts irrevocable =
        let active = ap open_in (run.inside inside).4 in
        let comes = held.comes irrevocable row active in
        let n = cells.clock / 2 in
        let words : List ℕ = words_at mid.depth base r.ended at in
        let same : bytes_at mid.depth base r.ended n ≡ bytes_of words = ap (bytes_at mid.depth base r.ended) (sym (here_now comes.1)) ∙ sym (laid.memories.same at at_most) in
        let state : alone_whole mid.depth (bytes_at mid.depth base r.ended n) row ≡ whole_k at = ap (λ (bytes : List ℕ). alone_whole mid.depth bytes row) same in
        let told = subst (λ (s : State). ComesTo (after mid.depth s call) (plainly mid.depth s call) (Answers (Committed at wrote)) a.engine cells'.words) state comes in
        let reads = subst (λ (k : ℕ). ReadsFrom mid.irrevocable (words_at mid.depth base r.ended n) mid.log (words_at mid.depth base r.ended k)) (sym (here_now comes.1)) (reads_last laws cells r1 a last call run inside irrevocable) in
        parts_by reads (ap is_open (sym state) ∙ held.still_open irrevocable row active) (record { closes = told.5; wrote_is = told.1 ∙ sym told.2; arena_is = told.3; actions_is = told.4; memory_is = λ w. sym told.0 })

    parts : Parts
    parts = elim (cases_Bool mid.irrevocable) [ inl irrevocable ↦ held_parts irrevocable | inr revocable ↦ open_parts revocable ]

    replied : Done ≡ plainly mid.depth (led laws cells r1 a last call run inside (bytes_of (words_at mid.depth base r.ended at))) call
    replied = commit_reply mid.depth (led_at at) parts.1.still_open ∙ ap (plainly mid.depth (led_at at)) (sym m.answered.fits.2)

    shut_now : in_transaction last.engine ≡ false
    shut_now = ap in_transaction m.settled.engine ∙ m.answered.fits.1

    pub commit_ended : r1.ended ≡ r.ended ++ committed_row wrote at a.engine call (run.inside inside).1 ∷ []
    commit_ended =
        let here : at ≡ a.engine.snapshot / 2 = m.ends.at_is ∙ ap (λ (c : Core). c.snapshot / 2) (sym m.ends.stays) in
        (taken_at m.told (run.inside inside).4 shut_now).ended
        ∙ (ap (λ (c : Core). r.ended ++ committed_row wrote (c.snapshot / 2) c call row ∷ []) m.settled.engine
        ∙ ap (λ (n : ℕ). r.ended ++ committed_row wrote n a.engine call row ∷ []) (sym here))

    -- what a writer leaves are the words as they are
    pub commit_memory : wrote ≡ true → (alone mid.depth (bytes_at mid.depth base r1.ended at) (committed_row wrote at a.engine call (run.inside inside).1)).memory ≡ bytes_of cells'.words
    commit_memory w =
        ap (λ (bytes : List ℕ). (alone mid.depth bytes (committed_row wrote at a.engine call (run.inside inside).1)).memory) (bytes_here at at_most)
        ∙ (ap (λ (s : State). s.memory) (closing_left laws mid.depth (run.inside inside).5.open_try.of_block (bytes_of (words_k at)) call Done parts.1 m.answered.in_call.asks replied 0 at (if wrote then outcomes.Committed else outcomes.ReadOnly) (told a.engine))
        ∙ (ap (λ (s : State). s.memory) parts.2 ∙ sym (parts.0.memory_is w)))

    pub commit_runs : IsRun rules first mid.depth base n' r1 last
    commit_runs =
        let t = run.inside inside in
        let s : State = after mid.depth (led_at at) call in
        let calls : List CallRecord = t.1.calls.list ++ record { call = call; reply = Done } ∷ [] in
        let by_commit : calls ≡ t.1.calls.list ++ record { call = Commit; reply = Done } ∷ [] = λ i. t.1.calls.list ++ record { call = m.answered.fits.2 i; reply = Done } ∷ [] in
        let ran : told a.engine ≡ s.actions.ran = ap (λ (x : State). x.actions.ran) (sym parts.2) in
        let closes : is_open s ≡ false = ap is_open parts.2 ∙ parts.0.closes in
        let wrote_is : s.wrote ≡ wrote = ap (λ (x : State). x.wrote) parts.2 ∙ sym parts.0.wrote_is in
        closed_runs Done at (if wrote then outcomes.Committed else outcomes.ReadOnly) (by_wrote (λ o. is_done o ≡ true) wrote (λ w. refl) (λ w. refl)) parts.1 m.answered.in_call.asks replied (row_is_of true a t.1 m.answered.kept.row (ap open_in t.4))
        (taken_at m.told t.4 shut_now) commit_ended m.settled.thread shut_now (let e = t.5.open_try.began in let is = m.ends.at_is in omega arith) at_most
        (by_wrote (λ o. EndsAs o s) wrote (λ w. (closes, wrote_is ∙ w)) (λ w. (closes, wrote_is ∙ w)))
        (by_wrote (λ o. ClosedBy o calls) wrote (λ w. (t.1.calls.list, by_commit)) (λ w. (t.1.calls.list, by_commit)))
        (by_wrote (λ o. told a.engine ≡ ran_of o s) wrote (λ w. ran) (λ w. ran))
        (ap (λ (x : State). x.arena) parts.2 ∙ (sym parts.0.arena_is ∙ ap (λ (c : Core). c.arena) (sym m.settled.engine)))

  -- ## In a cancel

  module _ {cells' : Cells} (seen : HasSeen mid.depth base cells cells' r mid a.engine) (reply : Replied) (m : HasAnswered rules true cells cells' r r1 mid a last call (Reply reply)) (shut : in_transaction last.engine ≡ false) (newer : a.engine.snapshot / 2 ≤ cells.clock / 2) where
    pub cancel_runs : IsRun rules first mid.depth base n' r1 last
    cancel_runs =
        let t = run.inside inside in
        let k : ℕ = a.engine.snapshot / 2 in
        let words : List ℕ = words_at mid.depth base r.ended k in
        let closed : in_transaction a.engine ≡ false = ap in_transaction (sym m.settled.engine) ∙ shut in
        let g = plain_reply mid a.engine call reply m.taken.doing m.taken.tied.settled closed m.ends in
        let nothing = m.taken.tied.settled.closed closed in
        let mem = memory_here k newer in
        let none : Agrees words a.engine.log = subst (Agrees words) (sym nothing.0) tt in
        let agrees = seen.still (ap (λ (c : Core). c.restarted) g.stays) inside in
        let reads = agree_reads (words_at mid.depth base r.ended (cells.clock / 2)) mid.irrevocable mid.log words g.revocable agrees in
        let stands : stands_for mid words ≡ whole_k k = try_in.stands g.revocable words mem agrees in
        let still_open = open_so try_in words mem reads g.revocable inside in
        let aborts = cancels mid a.engine call reply words g inside closed mem none in
        let replied : reply ≡ plainly mid.depth (led_at k) call =
        g.reply_is words mem none ∙ (ap (λ (w : Bool). recoded call w (plainly mid.depth (stands_for mid words) call)) t.5.anew ∙ (told_plainly call (plainly mid.depth (stands_for mid words) call)
        ∙ (ap (λ (s : State). plainly mid.depth s call) stands ∙ reply_as try_in words mem reads call))) in
        let state : stands_for a.engine words ≡ after mid.depth (whole_k k) call = g.meets words mem none ∙ ap (λ (s : State). after mid.depth s call) stands in
        let ran : a.engine.actions.ran ≡ (after mid.depth (whole_k k) call).actions.ran = ap (λ (x : Actions). x.ran) (sym (stands_actions a.engine words)) ∙ ap (λ (s : State). s.actions.ran) state in
        let closes = closes_as try_in words mem reads call a.engine.actions.ran still_open ran in
        let over = subst (λ (s : State). (is_open (after mid.depth s call) ≡ false) × ((after mid.depth s call).wrote ≡ false)) stands (cancelled mid a.engine call reply words g closed nothing.1 mem none) in
        let up = seen.up inside in
        let early = t.5.open_try.began in
        let x = taken_at m.told t.4 shut in
        closed_runs reply k outcomes.Cancelled refl (made_alone try_in words mem reads still_open) m.answered.in_call.asks replied (row_is_of true a t.1 m.answered.kept.row (ap open_in t.4))
        x
        (x.ended ∙ ap (λ (c : Core). r.ended ++ ending_as outcomes.Cancelled (stand_at false c) (with_call call reply t.1) ∷ []) m.settled.engine)
        m.settled.thread shut (omega arith) newer
        (ap is_open closes ∙ over.0, ap (λ (s : State). s.wrote) closes ∙ over.1)
        (t.1.calls.list, aborts.0, (λ i. t.1.calls.list ++ record { call = aborts.1 i; reply = aborts.2 i } ∷ []))
        (ap (λ (s : State). s.actions.ran) (sym closes))
        (ap (λ (s : State). s.arena) closes ∙ (ap (λ (s : State). s.arena) (sym state) ∙ (stands_arena a.engine words ∙ ap (λ (c : Core). c.arena) (sym m.settled.engine))))

  -- ## Without one

  -- an attempt that ends so is not irrevocable
  revocable_of : {cells' : Cells} {what : Next} → HasHeld mid.depth base cells cells' r (active_of a) mid a.engine call what → ((s : State) (reply : Replied) → ComesTo s reply what a.engine cells'.words → ⊥) → mid.irrevocable ≡ false
  revocable_of held never = false_from_ne_true mid.irrevocable (λ i. never _ _ (held.comes i (run.inside inside).1 (ap open_in (run.inside inside).4)))

  -- the memory of its position agrees with its log
  module _ (k : ℕ) (outcome : Outcome) (due : List Ran) (stopped : is_done outcome ≡ false) (ended : outcome ≡ outcomes.Unfinished → ⊥) (ends : (x : State) → is_open x ≡ true → x.irrevocable ≡ false → EndsAs outcome x) (thread : last.run.thread ≡ a.run.thread) (mine : (run.inside inside).1.thread ≡ a.run.thread)
      (stops : r1.ended ≡ r.ended ++ record (run.inside inside).1 { calls = spent (run.inside inside).1.calls; at = k; ran = told_ran laws cells r1 a last call run inside due; outcome = outcome } ∷ [])
      (older : (run.inside inside).1.began + length (run.inside inside).1.restarts ≤ k) (newer : k ≤ cells.clock / 2) (agrees : Agrees (words_at mid.depth base r.ended k) mid.log) (revocable : mid.irrevocable ≡ false) (due_is : due ≡ (undone (stands_for mid (words_at mid.depth base r.ended k))).actions.ran) where
    stop_reads : ReadsFrom mid.irrevocable (words_at mid.depth base r.ended (cells.clock / 2)) mid.log (words_at mid.depth base r.ended k)
    stop_reads = agree_reads (words_at mid.depth base r.ended (cells.clock / 2)) mid.irrevocable mid.log (words_at mid.depth base r.ended k) revocable agrees

    stop_whole : due ≡ (undone (whole_k k)).actions.ran
    stop_whole = due_is ∙ ap (λ (s : State). (undone s).actions.ran) (try_in.stands revocable (words_k k) (memory_here k newer) agrees)

    -- as it is told, it has stopped where the engine stood, but for what has run
    stop_led : led_at k ≡ telling (stands_for mid (words_at mid.depth base r.ended k)) (told_ran laws cells r1 a last call run inside mid.actions.ran)
    stop_led = stays_as try_in (words_k k) (memory_here k newer) stop_reads ∙ ap (λ (s : State). telling s (told_ran laws cells r1 a last call run inside mid.actions.ran)) (sym (try_in.stands revocable (words_k k) (memory_here k newer) agrees))

    stop_mode : (led_at k).irrevocable ≡ false
    stop_mode = ap (λ (x : State). x.irrevocable) stop_led ∙ (stands_mode mid (words_at mid.depth base r.ended k) ∙ revocable)

    -- where it is full, its next call is one that takes the clock
    pub stop_run : (outcome ≡ outcomes.Full → (rules.next_call a.run.player ≡ Some call) × (takes_clock (after mid.depth (stands_for mid (words_at mid.depth base r.ended k)) call) ≡ true))
        → RunOf rules first mid.depth base n' r1.ended last.run.thread
        × (now_at rules first mid.depth base r1.ended last.run.thread ≡ after_try rules mid.depth (bytes_at mid.depth base r1.ended) (run.inside inside).0 (Some (run.inside inside).5.open_try.of_block.start) (record (run.inside inside).1 { calls = spent (run.inside inside).1.calls; at = k; ran = told_ran laws cells r1 a last call run inside due; outcome = outcome }))
    stop_run full =
        let t = run.inside inside in
        let block = t.5.open_try.of_block in
        let ran : List Ran = told_ran laws cells r1 a last call run inside due in
        let words : List ℕ = words_k k in
        let mem = memory_here k newer in
        let still_open = open_so try_in words mem stop_reads revocable inside in
        let made = made_alone try_in words mem stop_reads still_open in
        let takes = closes_as try_in words mem stop_reads call (after mid.depth (whole_k k) call).actions.ran still_open refl in
        let lacks : outcome ≡ outcomes.Full → LacksClock rules mid.depth (rules.answered block.start.player (begin_code t.0.again)) t.1 (bytes_of words) =
        λ f. lacks_clock laws mid.depth block (bytes_of words) call (plainly mid.depth (led_at k) call) made (full f).0 refl stop_mode (ap takes_clock takes ∙ (ap (λ (s : State). takes_clock (after mid.depth s call)) (sym (try_in.stands revocable words mem agrees)) ∙ (full f).1)) in
        ended_run laws cells r1 a last call run n' later still inside (record t.1 { calls = spent t.1.calls; at = k; ran = ran; outcome = outcome }) mine stops thread
        (try_of_room laws mid.depth n' (bytes_at mid.depth base r1.ended) t.0 block.start (record t.1 { at = k; ran = ran; outcome = outcome }) 0
        (try_stops laws mid.depth block n' (bytes_at mid.depth base r1.ended) k (bytes_of words) (bytes_here k newer) outcome ran stopped made
        (ends (led_at k) (ap is_open stop_led ∙ stands_open mid words inside) stop_mode) older (omega (arith, newer, later)) (ran_stops try_in words mem stop_reads outcome due stopped ended stop_whole) lacks))

    -- the arena that it leaves
    pub stop_left : (undone (alone mid.depth (bytes_at mid.depth base r1.ended k) (record (run.inside inside).1 { calls = spent (run.inside inside).1.calls; at = k; ran = told_ran laws cells r1 a last call run inside due; outcome = outcome }))).arena ≡ (undone (stands_for mid (words_at mid.depth base r.ended k))).arena
    stop_left =
        ap (λ (bytes : List ℕ). (undone (alone mid.depth bytes (run.inside inside).1)).arena) (bytes_here k newer)
        ∙ (ap (λ (s : State). (undone s).arena) (alone_led laws mid.depth (run.inside inside).5.open_try.of_block (bytes_of (words_k k)))
        ∙ (ap (λ (s : State). s.arena) (stops_as try_in (words_k k) (memory_here k newer) stop_reads due stop_whole) ∙ ap (λ (s : State). (undone s).arena) (sym (try_in.stands revocable (words_k k) (memory_here k newer) agrees))))

  -- in conflict: its player goes back to its begin
  module _ {cells' : Cells} (seen : HasSeen mid.depth base cells cells' r mid a.engine) (clock : ℕ) (word : Option ℕ) (m : HasAnswered rules true cells cells' r r1 mid a last call (Conflict clock word)) (held : HasHeld mid.depth base cells cells' r (active_of a) mid a.engine call (Answers (Conflict clock word))) where
    pub conflict_runs : IsRun rules first mid.depth base n' r1 last
    conflict_runs =
        let g : Conflicts mid clock word a.engine = subst (λ (b : Bool). ConflictsIn b mid clock word a.engine) inside m.ends in
        let t = run.inside inside in
        let block = t.5.open_try.of_block in
        let shut : in_transaction last.engine ≡ false = ap in_transaction m.settled.engine ∙ m.answered.fits.1 in
        let tally : Tally P = record { player = rules.restarted a.run.player; nth = a.run.nth; again = a.run.again; stage = within t.1 t.3 } in
        let gone : List Attempt = ending_as outcomes.Conflict (stand_at false last.engine) t.1 ∷ [] in
        let x = taken_at m.told t.4 shut in
        let d = is_tried tally gone a.run.retries x in
        let mine = row_is_of true a t.1 m.answered.kept.row (ap open_in t.4) in
        let k : ℕ = last.engine.snapshot / 2 in
        let snapshot : last.engine.snapshot ≡ mid.snapshot = ap (λ (c : Core). c.snapshot) (m.settled.engine ∙ g.stays) in
        let early = t.5.open_try.began in
        let late = seen.late in
        let newer : k ≤ cells.clock / 2 = omega arith in
        let revocable = revocable_of held (λ s reply never. never) in
        let agrees = subst (λ (j : ℕ). Agrees (words_at mid.depth base r.ended (j / 2)) mid.log) (sym snapshot) (seen.logged inside) in
        let words : List ℕ = words_at mid.depth base r.ended k in
        let undone_is = g.undone words (memory_here k newer) in
        let due_is : last.engine.actions.ran ≡ (undone (stands_for mid words)).actions.ran = ap (λ (c : Core). c.actions.ran) m.settled.engine ∙ (ap (λ (x : Actions). x.ran) (sym (stands_actions a.engine words)) ∙ ap (λ (x : State). x.actions.ran) undone_is) in
        let over = stop_run k outcomes.Conflict last.engine.actions.ran refl (λ u. absurd (cc)) (λ x o i. (o, i)) m.settled.thread mine d.ended (omega arith) newer agrees revocable due_is (λ f. absurd (cc)) in
        let left = stop_left k outcomes.Conflict last.engine.actions.ran refl (λ u. absurd (cc)) (λ x o i. (o, i)) m.settled.thread mine d.ended (omega arith) newer agrees revocable due_is in
        let player : rules.restarted (answered_all rules.answered (rules.answered block.start.player (begin_code t.0.again)) (map (λ (x : CallRecord). x.reply) t.1.calls.list)) ≡ last.run.player = ap rules.restarted (sym block.player) ∙ sym d.player in
        let arena = left ∙ (sym (ap (λ (x : State). x.arena) undone_is) ∙ (stands_arena a.engine words ∙ ap (λ (c : Core). c.arena) (sym m.settled.engine))) in
        rests_run rules first mid.depth base over.0 shut true t.1.nth (over.1 ∙ (λ i. Some (record { player = player i; arena = arena i; again = true; tries = t.1.nth }))) (d.again ∙ t.6)
        (λ gave_up. omega (arith, (next_try tally gone a.run.retries x gave_up).1, t.7)) (ap begun_in d.stage)

  -- as full: the actor gives up
  module _ {cells' : Cells} (seen : HasSeen mid.depth base cells cells' r mid a.engine) (at : ℕ) (m : HasAnswered rules true cells cells' r r1 mid a last call (Full at)) (held : HasHeld mid.depth base cells cells' r (active_of a) mid a.engine call (Answers (Full at))) (older : (run.inside inside).1.began + length (run.inside inside).1.restarts ≤ at) (newer : at ≤ cells.clock / 2) where
    pub full_runs : IsRun rules first mid.depth base n' r1 last
    full_runs =
        let t = run.inside inside in
        let shut : in_transaction last.engine ≡ false = ap in_transaction m.settled.engine ∙ m.answered.fits.1 in
        let x = taken_at m.told t.4 shut in
        let here : at ≡ last.engine.snapshot / 2 = m.ends.at_is ∙ ap (λ (c : Core). c.snapshot / 2) (sym m.settled.engine) in
        let ended = x.ended ∙ ap (λ (n : ℕ). r.ended ++ record (ending_as outcomes.Full (stand_at false last.engine) t.1) { at = n } ∷ []) (sym here) in
        let mine = row_is_of true a t.1 m.answered.kept.row (ap open_in t.4) in
        let revocable = revocable_of held (λ s reply never. never) in
        let agrees = subst (λ (k : ℕ). Agrees (words_at mid.depth base r.ended k) mid.log) (sym m.ends.at_is) (seen.still (ap (λ (c : Core). c.restarted) m.ends.stays) inside) in
        let words : List ℕ = words_at mid.depth base r.ended at in
        let takes = wants_taking mid words revocable inside call (subst (WantsClock mid) m.taken.doing m.ends.wants) in
        let due : last.engine.actions.ran ≡ (undone (stands_for mid words)).actions.ran = ap (λ (c : Core). c.actions.ran) m.settled.engine ∙ (ap (λ (x : Actions). x.ran) (sym (stands_actions a.engine words)) ∙ ap (λ (x : State). x.actions.ran) (m.ends.undone words (memory_here at newer))) in
        gave_run rules first mid.depth base
        (stop_run at outcomes.Full last.engine.actions.ran refl (λ u. absurd (cc)) (λ x o i. (o, i)) m.settled.thread mine ended older newer agrees revocable due (λ f. (m.answered.in_call.asks, takes))).0
        shut (ap ending_of x.status)
