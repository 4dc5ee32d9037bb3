-- A call of the open transaction is answered: it goes on, or is over.
use Rattle.std.proofs.Common.{◌≡◌, ℕ, suc, ◌/◌, Bool, true, false, if◌then◌else◌, List, [], ◌∷◌, ◌++◌, length, Some, refl, sym, true≢false, ap, subst, ◌∙◌, arith, append-nil}
use Rattle.worker_rules.proofs.Common.{Abort, Account, Agrees, Block, Call, Commit, Committed, Core, Course, IsMemory, IsRunning, MayRead, Meets, Obeys, Replied, Reply, Restarted, Rules, Served, Stands, Start, State, View, after, bytes_at, came_over, cancels_by, commit_reply, cut_back, in_transaction, is_cut, is_inside, is_open, memory_of, mine_if, plain_reply, reply, rests, savepoints_after, shut_revocable, stands_for, state_in, stood}
use Rattle.norec_core.specs.Order.{stage_at}
use Rattle.tx_attempts.specs.declared.attempt.Outcome.TheVariants as outcomes
use Rattle.worker_rules.proofs.Runs.LaterRuns.{stays_open}
use Rattle.worker_rules.proofs.Runs.OpenCloses.{Closes, closes_running}
use Rattle.worker_rules.proofs.Runs.EarlierReads.{came_stood, met_here, position_read, told_plain}
use Rattle.worker_rules.proofs.Machines.PlainStates.{stands_actions, stands_arena, stands_blocks, stands_open, stands_shut}
use Rattle.worker_rules.proofs.Machines.LastEvents.{IsLast}
use Rattle.worker_rules.proofs.Shapes.{RunsTo, closed, ended_at, goes_on, replied_row, row_with, with_room}
use Rattle.worker_rules.proofs.Transactions.OpenTries.{try_back, try_on}
use Rattle.itm_types.specs.declared.call.Reply.TheVariants.{Code, Done}

-- the commit of the outermost block ends its transaction
pub commit_closes : (deepest : ℕ) (s : State) → length s.blocks ≡ 1 → is_open (after deepest s Commit) ≡ false
commit_closes deepest s one = by_blocks s.blocks one
  where
    by_blocks : (bs : List Block) → length bs ≡ 1 → is_open (after deepest (record s { blocks = bs }) Commit) ≡ false
    by_blocks [] one = absurd (omega arith)
    by_blocks (b ∷ []) one = refl
    by_blocks (b ∷ p ∷ bs) one = absurd (omega (arith, one))

module _ {P : Type 0} {rules : Rules P} (laws : Obeys rules) (c : Course P) (s : Start) (t : Account P) (v : View) (e : Core) (running : IsRunning rules c s.view s.engine t) (before : Stands s.view s.engine) (stands : Stands v e)
    (asks : rules.next_call t.player ≡ Some s.call) (first_time : s.again ≡ false) (inside : in_transaction s.engine ≡ true) where
  -- ## It goes on

  module _ (r : Replied) (served : Served s (Reply r) v e) where
    pub stays : (ahead : ℕ) → IsLast s v (Reply r) e → in_transaction e ≡ true
        → RunsTo rules c v e (goes_on t (rules.answered t.player r) (replied_row s.call r e.actions.ran (with_room ahead (running.inside inside).row)) (savepoints_after (running.inside inside).points (with_room ahead (running.inside inside).row) (record { call = s.call; reply = r })))
    stays ahead last o = stays_open running served.went served.mine inside o _ _ _ (try_on laws c s t v e running before stands asks first_time inside ahead r served last o) refl refl refl

    -- ## It is cancelled

    module _ (last : IsLast s v (Reply r) e) (shut : in_transaction e ≡ false) where
      abbrev from : List ℕ
      from = stood s.engine.irrevocable s.view (memory_of v (e.snapshot / 2))

      abbrev left : List ℕ
      left = stood e.irrevocable v (memory_of v (e.snapshot / 2))

      met : Meets s r e from left
      met = met_here s v e before stands inside r served

      replied_plain : r ≡ reply c.depth (stands_for s.engine from) s.call
      replied_plain = told_plain s v e before stands inside r first_time from left met ∙ ap (λ (deepest : ℕ). reply deepest (stands_for s.engine from) s.call) running.deepest

      met_state : stands_for e left ≡ after c.depth (stands_for s.engine from) s.call
      met_state = met.state ∙ ap (λ (deepest : ℕ). after deepest (stands_for s.engine from) s.call) running.deepest

      aborts : (outer : Bool) × (s.call ≡ Abort outer) × (r ≡ Code 24)
      aborts =
          let some = stands.settled.agreed in
          cancels_by last.mid e s.call r some.0 (plain_reply last.mid e s.call r last.is_mid.kept.doing last.is_mid.settled shut last.ends) (ap is_inside last.is_mid.kept.blocks ∙ inside) shut
          (subst (λ (n : ℕ). IsMemory n some.0) (rests last.mid e (Reply r) last.ends).words some.1) some.2

      at_once : (v ≡ s.view) × (e.snapshot ≡ s.engine.snapshot)
      at_once = served.at_once (ap (λ (call : Call). stage_at s.engine call s.again) aborts.1)

      read : MayRead s.view s.engine (memory_of v (e.snapshot / 2))
      read =
          position_read s v e before stands inside (Reply r) served
          (subst (λ (m : List ℕ). Agrees m s.engine.log) (λ i. memory_of (sym at_once.0 i) (sym at_once.1 i / 2)) (before.reads inside).agrees)

      not_wrote : (stands_for e left).wrote ≡ false
      not_wrote = λ i. (state_in (shut_revocable e stands.settled shut i) ((stands.settled.closed shut).1 i) e.blocks e.arena e.actions left).wrote

      pub cancels : RunsTo rules c v e (closed t (rules.answered t.player r) (ended_at outcomes.Cancelled (e.snapshot / 2) e.actions.ran (row_with 0 s.call r (running.inside inside).row)))
      cancels =
          let calls = (running.inside inside).row.calls.list in
          let same = at_once.1 in
          let count = (before.reads inside).count in
          let seen = ap (λ (x : View). length x.seen) at_once.0 in
          closes_running laws c s t v e running before served.went asks inside r read replied_plain outcomes.Cancelled (record {
            done = refl;
            shut = shut;
            ends = (ap is_open (sym met_state) ∙ stands_shut e left shut, ap (λ (x : State). x.wrote) (sym met_state) ∙ not_wrote);
            by = (calls, aborts.0, (λ i. calls ++ record { call = aborts.1 i; reply = aborts.2 i } ∷ []));
            actions = sym (stands_actions e left) ∙ ap (λ (x : State). x.actions) met_state;
            arena = sym (stands_arena e left) ∙ ap (λ (x : State). x.arena) met_state;
            older = omega arith;
            newer = omega arith;
            leaves = λ is. absurd (true≢false (sym is));
            mine = served.mine ∙ sym (append-nil s.view.mine);
            clock = (let up = stands.settled.reached in let behind = stands.behind in let high = stands.over.high in omega arith);
          })

  -- ## It commits

  module _ (at : ℕ) (wrote : Bool) (served : Served s (Committed at wrote) v e) where
    abbrev over : List ℕ
    over = stood s.engine.irrevocable s.view (memory_of v (e.snapshot / 2))

    commit_read : MayRead s.view s.engine (memory_of v (e.snapshot / 2))
    commit_read =
        position_read s v e before stands inside (Committed at wrote) served
        (subst (λ (n : ℕ). Agrees (memory_of v n) s.engine.log) served.tells.closes.at_is (served.tells.closes.agrees inside))

    done_plain : Done ≡ reply c.depth (stands_for s.engine over) s.call
    done_plain = commit_reply c.depth (stands_for s.engine over) (stands_open s.engine over inside) ∙ ap (reply c.depth (stands_for s.engine over)) (sym served.tells.call)

    last_is : after s.engine.depth (stands_for s.engine (came_over s v e)) Commit ≡ after c.depth (stands_for s.engine over) s.call
    last_is = λ i. after (running.deepest i) (stands_for s.engine (came_stood s v e i)) (sym served.tells.call i)

    is_shut : is_open (after c.depth (stands_for s.engine over) s.call) ≡ false
    is_shut =
        ap (λ (call : Call). is_open (after c.depth (stands_for s.engine over) call)) served.tells.call
        ∙ commit_closes c.depth (stands_for s.engine over) (stands_blocks s.engine over ∙ served.tells.outermost)

    by_wrote : (w : Bool) → wrote ≡ w → Closes laws c s t v e running before served.went asks inside Done commit_read done_plain (if w then outcomes.Committed else outcomes.ReadOnly)
    by_wrote true is =
        let calls = (running.inside inside).row.calls.list in
        let at_is = served.tells.closes.at_is in
        let next = served.tells.next is in
        let seen = next.0 in
        record {
          done = refl;
          shut = served.tells.closes.closed;
          ends = (is_shut, sym (ap (λ (x : State). x.wrote) last_is) ∙ (sym served.tells.wrote_is ∙ is));
          by = (calls, (λ i. calls ++ record { call = served.tells.call i; reply = Done } ∷ []));
          actions = served.tells.actions_is ∙ ap (λ (x : State). x.actions) last_is;
          arena = served.tells.arena_is ∙ ap (λ (x : State). x.arena) last_is;
          older = served.tells.closes.late inside;
          newer = omega arith;
          leaves = λ yes. (omega arith, ap (λ (n : ℕ). bytes_at v (suc n)) (sym at_is) ∙ (next.1 ∙ ap (λ (x : State). x.memory) last_is));
          mine = served.mine ∙ (λ i. mine_if (is i) s.view.mine (at_is i));
          clock = (let up = served.tells.clock is in let behind = stands.behind in let high = stands.over.high in omega arith);
        }
    by_wrote false is =
        let calls = (running.inside inside).row.calls.list in
        let at_is = served.tells.closes.at_is in
        let seen = served.tells.closes.seen in
        record {
          done = refl;
          shut = served.tells.closes.closed;
          ends = (is_shut, sym (ap (λ (x : State). x.wrote) last_is) ∙ (sym served.tells.wrote_is ∙ is));
          by = (calls, (λ i. calls ++ record { call = served.tells.call i; reply = Done } ∷ []));
          actions = served.tells.actions_is ∙ ap (λ (x : State). x.actions) last_is;
          arena = served.tells.arena_is ∙ ap (λ (x : State). x.arena) last_is;
          older = served.tells.closes.late inside;
          newer = omega arith;
          leaves = λ yes. absurd (true≢false (sym yes));
          mine = served.mine ∙ (ap (λ (w : Bool). mine_if w s.view.mine at) is ∙ sym (append-nil s.view.mine));
          clock = (let up = stands.settled.reached in let behind = stands.behind in let high = stands.over.high in omega arith);
        }

    pub commits : RunsTo rules c v e (closed t (rules.answered t.player Done) (ended_at (if wrote then outcomes.Committed else outcomes.ReadOnly) (e.snapshot / 2) e.actions.ran (row_with 0 s.call Done (running.inside inside).row)))
    commits = closes_running laws c s t v e running before served.went asks inside Done commit_read done_plain (if wrote then outcomes.Committed else outcomes.ReadOnly) (by_wrote wrote refl)

  -- ## Its innermost block goes back

  module _ (clock word : ℕ) (served : Served s (Restarted clock word) v e) where
    pub backs : (ahead : ℕ) → IsLast s v (Restarted clock word) e
        → RunsTo rules c v e (goes_on t (rules.at_block t.player (rules.depth t.player)) (cut_back (running.inside inside).points e.arena e.actions.ran (with_room ahead (running.inside inside).row)) (running.inside inside).points)
    backs ahead last =
        let cut = is_cut (running.inside inside).points e.arena e.actions.ran (with_room ahead (running.inside inside).row) in
        stays_open running served.went served.mine inside served.tells.still.1 _ _ _ (try_back laws c s t v e running before stands asks first_time inside ahead clock word served last) cut.nth cut.thread cut.began
