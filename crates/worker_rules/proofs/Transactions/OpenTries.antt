-- The open attempt over a call of its transaction, by its answer: it is the engine's still, with the call, or cut to the begin of its innermost block.
use Rattle.std.proofs.Common.{inl, inr, ◌≡◌, ℕ, ◌/◌, ◌&&◌, ◌≤◌, Bool, true, false, not, List, [], ◌∷◌, ◌++◌, length, Some, refl, sym, true≢false, ap, subst, ◌∙◌, arith, length-append}
use Rattle.worker_rules.proofs.Common.{Account, Actions, Agrees, Answer, AreRead, Attempt, Core, Course, Frame, IsMemory, IsOpenTry, IsRunning, IsTry, LogRow, MayRead, Meets, Obeys, ReadsFrom, Replied, Reply, Restarted, Rules, Savepoint, Served, Stands, Start, State, View, Ways, after, back_on, came_restarted, cut_back, in_transaction, is_inside, is_memory, is_open, memory_of, reply, reply_cases, rests, savepoints_after, stands_for, stood, went_self, whole_then}
use Rattle.call_rules.proofs.Calls.Closes.{read_so_far}
use Rattle.run_rules.proofs.CallsAlone.{whole_so}
use Rattle.run_rules.proofs.TriesHeld.{enters_on, held_on}
use Rattle.run_rules.proofs.TriesReply.{replies_on}
use Rattle.run_rules.proofs.TriesStep.{moves_on, told_on}
use Rattle.worker_rules.proofs.Machines.LastEvents.{IsLast}
use Rattle.worker_rules.proofs.Machines.PlainStates.{stands_actions}
use Rattle.worker_rules.proofs.Runs.EarlierReads.{met_here, position_read, told_plain}
use Rattle.worker_rules.proofs.Runs.OpenRuns.{open_whole, stood_whole}
use Rattle.worker_rules.proofs.Shapes.{replied_row, with_room}

-- what had been read at each begin has been, where more was read since
read_more : (n m : ℕ) (bs : List Frame) → n ≤ m → AreRead n bs → AreRead m bs
read_more n m [] l r = tt
read_more n m (b ∷ []) l r = r
read_more n m (b ∷ o ∷ outer) l r = (let few = r.0 in omega arith, r.1)

module _ {P : Type 0} {rules : Rules P} (laws : Obeys rules) (c : Course P) (s : Start) (t : Account P) (v : View) (e : Core) (running : IsRunning rules c s.view s.engine t) (before : Stands s.view s.engine) (stands : Stands v e)
    (asks : rules.next_call t.player ≡ Some s.call) (first_time : s.again ≡ false) (inside : in_transaction s.engine ≡ true) (ahead : ℕ) where
  -- the attempt as the call comes, with room for it and for so many more
  abbrev pub row : Attempt
  row = with_room ahead (running.inside inside).row

  abbrev pub points : List Savepoint
  points = (running.inside inside).points

  -- the memory of the position that the call leaves it at
  abbrev next : List ℕ
  next = memory_of v (e.snapshot / 2)

  -- ## At the last event

  module _ {a : Answer} (last : IsLast s v a e) where
    abbrev mid : Core
    mid = last.mid

    inside_mid : in_transaction last.mid ≡ true
    inside_mid = ap is_inside last.is_mid.kept.blocks ∙ inside

    read_mid : mid.irrevocable ≡ false → AreRead (length last.mid.log) last.mid.blocks
    read_mid revocable =
        let had = last.is_mid.before inside_mid in
        let more : length s.engine.log ≤ length mid.log = omega (arith, ap (length {A = LogRow}) had.log.1, length-append s.engine.log had.log.0) in
        subst (AreRead (length mid.log)) (sym last.is_mid.kept.blocks) (read_more (length s.engine.log) (length mid.log) s.engine.blocks more (before.settled.reads (sym last.is_mid.kept.irrevocable ∙ revocable)))

    try_mid : IsOpenTry rules c.depth (memory_of s.view (s.engine.snapshot / 2)) (running.inside inside).between row points t.player last.mid
    try_mid =
        let k = last.is_mid.kept in
        let had = last.is_mid.before inside_mid in
        let was : IsOpenTry rules c.depth (memory_of s.view (s.engine.snapshot / 2)) (running.inside inside).between row points t.player s.engine = told_on (running.inside inside).try.is_open (running.inside inside).row.at row.calls.room in
        moves_on was mid k.words k.actions k.irrevocable k.writes k.blocks k.arena (k.restarted ∙ came_restarted s.engine s.call s.again inside) had.from (λ r. before.settled.reads r) (λ r. had.log)

    words_mid : e.words ≡ mid.words
    words_mid = (rests mid e a last.ends).words

    memory_mid : IsMemory mid.words next
    memory_mid = is_memory mid.words v last.is_mid.over (e.snapshot / 2)

    -- some memory agrees with the log that the call leaves
    agreed_mid : (m : List ℕ) × IsMemory mid.words m × Agrees m e.log
    agreed_mid = (let some = stands.settled.agreed in (some.0, subst (λ (n : ℕ). IsMemory n some.0) words_mid some.1, some.2))

  -- ## It goes on

  module _ (r : Replied) (served : Served s (Reply r) v e) (last : IsLast s v (Reply r) e) (now : in_transaction e ≡ true) where
    abbrev pub on : Attempt
    on = replied_row s.call r e.actions.ran row

    abbrev pub points_on : List Savepoint
    points_on = savepoints_after points row (record { call = s.call; reply = r })

    -- where its calls led for the engine
    abbrev before_it : State
    before_it = whole_then c.depth row next row.calls.list

    read : MayRead s.view s.engine next
    read = position_read s v e before stands inside (Reply r) served (served.grows inside now (λ x. x)).agrees

    met : Meets s r e (stood s.engine.irrevocable s.view next) (stood e.irrevocable v next)
    met = met_here s v e before stands inside r served

    stands_before : stands_for s.engine (stood s.engine.irrevocable s.view next) ≡ before_it
    stands_before = stood_whole laws c t s.view s.view s.engine running before inside (went_self s.view) next read

    replied_before : r ≡ reply c.depth before_it s.call
    replied_before = told_plain s v e before stands inside r first_time (stood s.engine.irrevocable s.view next) (stood e.irrevocable v next) met ∙ (λ i. reply (running.deepest i) (stands_before i) s.call)

    stands_after : stands_for e (stood e.irrevocable v next) ≡ after c.depth before_it s.call
    stands_after = met.state ∙ (λ i. after (running.deepest i) (stands_before i) s.call)

    ran_after : e.actions.ran ≡ (after c.depth before_it s.call).actions.ran
    ran_after = ap (λ (x : Actions). x.ran) (sym (stands_actions e (stood e.irrevocable v next))) ∙ ap (λ (x : State). x.actions.ran) stands_after

    open_before : is_open before_it ≡ true
    open_before = open_whole laws c t s.view s.view s.engine running before inside (went_self s.view) next read

    depth_mid : last.mid.depth ≡ c.depth
    depth_mid = last.is_mid.kept.depth ∙ running.deepest

    again_mid : last.mid.again ≡ false
    again_mid = last.is_mid.kept.again ∙ ap (λ (b : Bool). b && not (in_transaction s.engine)) first_time

    same_restarts : e.restarted ≡ last.mid.restarted
    same_restarts = (rests last.mid e (Reply r) last.ends).restarted (λ x. x)

    here : s.engine.irrevocable ≡ true → next ≡ memory_of s.view (s.engine.snapshot / 2)
    here held = subst (λ (b : Bool). ReadsFrom b (memory_of s.view (s.engine.snapshot / 2)) s.engine.log next) held read.1

    by_way : Ways last.mid e s.call r → IsOpenTry rules c.depth next (running.inside inside).between on points_on (rules.answered t.player r) e
    by_way (inl g) =
        let free : e.irrevocable ≡ false = ap (λ (x : Core). x.irrevocable) g.stays ∙ g.revocable in
        let more = last.log (λ x. x) now free in
        replies_on laws (try_mid last) next e s.call r asks g depth_mid again_mid (inside_mid last) now more.0 more.1 (agreed_mid last) (read_mid last g.revocable) (last.snapshot (λ x. x) inside)
    by_way (inr (inl g)) =
        enters_on laws (try_mid last) next e s.call r asks g depth_mid again_mid (inside_mid last) now (memory_mid last) (read_so_far s v last.mid e last.is_mid same_restarts (in_transaction last.mid) refl)
    by_way (inr (inr g)) =
        held_on laws (try_mid last) next e s.call r asks g (running.depth ∙ ap (length {A = Frame}) (sym last.is_mid.kept.blocks)) (inside_mid last) (memory_mid last) (here (sym last.is_mid.kept.irrevocable ∙ g.irrevocable)) open_before replied_before ran_after

    pub try_on : IsTry rules c.depth (running.inside inside).between (replied_row s.call r e.actions.ran (with_room ahead (running.inside inside).row))
        (savepoints_after (running.inside inside).points (with_room ahead (running.inside inside).row) (record { call = s.call; reply = r })) (rules.answered t.player r) v e
    try_on = record {
      is_open = by_way (reply_cases last.mid e s.call r last.is_mid.kept.doing last.ends);
      stands_held = λ is. subst (λ (b : Bool). stands_for e (stood b v next) ≡ whole_then c.depth row next (row.calls.list ++ record { call = s.call; reply = r } ∷ [])) is (stands_after ∙ sym (whole_so laws (try_mid last) s.call r next));
    }

  -- ## Its innermost block goes back

  module _ (clock word : ℕ) (served : Served s (Restarted clock word) v e) (last : IsLast s v (Restarted clock word) e) where
    pub try_back : IsTry rules c.depth (running.inside inside).between
        (cut_back (running.inside inside).points e.arena e.actions.ran (with_room ahead (running.inside inside).row)) (running.inside inside).points (rules.at_block t.player (rules.depth t.player)) v e
    try_back = record {
      is_open = back_on next e clock word last.ends running.nested.blocks stands.settled.even (read_mid last last.ends.revocable) (agreed_mid last) (try_mid last);
      stands_held = λ is. absurd (true≢false (sym is ∙ served.tells.revocable.1));
    }
