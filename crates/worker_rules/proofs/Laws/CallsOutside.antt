-- A call that comes outside a transaction, by its answer.
use Rattle.std.proofs.Common.{◌≡◌, ℕ, ◌<◌, Bool, true, false, true≢false, nat_lt, List, [], None, Some, refl, sym, ap, subst, ◌∙◌, arith, inl, append-nil}
use Rattle.worker_rules.proofs.Common.{Account, Answer, Attempt, Begin, Busy, Call, Committed, Conflict, Core, Course, Full, IsRunning, Obeys, Props, Replied, Reply, Restarted, Rules, Served, Stage, Stands, Start, Taken, View, begins, begins_again, begun, commits_known, entered, in_transaction, is_begin, mine_after, outside, stage_at, stand_of, tally_in, took_in, tried_as}
use Rattle.worker_rules.proofs.Begins.OutermostBegins.{begin_over, busy, full_begin, lost, no_commit, opens}
use Rattle.worker_rules.proofs.Begins.OutsideCalls.{only_replies, passes, stays_shut}
use Rattle.worker_rules.proofs.Laws.Outcomes.{Turns, ends_so, goes_untold, none_told, tries_so}
use Rattle.worker_rules.proofs.Machines.LastEvents.{IsLast}
use Rattle.worker_rules.proofs.Shapes.{RunsTo, tried}

module _ {P : Type 0} {rules : Rules P} (laws : Obeys rules) (c : Course P) (s : Start) (a : Account P) (v : View) (e : Core) (running : IsRunning rules c s.view s.engine a) (before : Stands s.view s.engine) (stands : Stands v e)
    (asks : rules.next_call a.player ≡ Some s.call) (shut_before : in_transaction s.engine ≡ false) (ahead : ℕ) where
  -- the attempt that a begin is to open
  abbrev pub row_for : Props → Attempt
  row_for props = begun c.number a.nth (commits_known s.view) props s.engine.arena ahead

  abbrev pub Took : Call → Answer → Taken P
  Took call answer = took_in rules c.retries (record (tally_in a) { stage = stage_at outside call (λ props. begun c.number a.nth (commits_known s.view) props s.engine.arena ahead) ahead }) call answer (stand_of e)

  abbrev To : Taken P → Type 0
  To x = Turns rules c s.engine.max_commits a v e x

  -- a reply leaves no block open
  pass_on : (r : Replied) → Served s (Reply r) v e → IsLast s v (Reply r) e → in_transaction e ≡ false → To (record { tally = record { player = rules.answered a.player r; nth = a.nth; again = a.again; stage = outside }; over = []; end = None })
  pass_on r served last shut = goes_untold a _ (passes laws c s a v e running before asks shut_before r served last shut)

  -- a begin came to nothing
  try_on : {answer : Answer} → Served s answer v e → mine_after s.view.mine answer ≡ s.view.mine → in_transaction e ≡ false → s.view.looks < v.looks → RunsTo rules c v e (tried a a.player a.ended) → To (tried_as (nat_lt c.retries a.nth) (tally_in a) [])
  try_on served same shut looks next =
      tries_so a (tally_in a) [] (none_told a (begin_over laws c s a v e running before stands asks shut_before served same)) shut
      (λ more. (let looked = (running.outside shut_before).looked in omega arith))
      (subst (λ (xs : List Attempt). RunsTo rules c v e (tried a a.player xs)) (sym (append-nil a.ended)) next) (nat_lt c.retries a.nth) refl

  -- ## A begin

  module _ (props : Props) (room : ℕ) (is : s.call ≡ Begin props room) (again : s.again ≡ a.again) where
    entered_on : (r : Replied) → Served s (Reply r) v e → IsLast s v (Reply r) e → (b : Bool) → in_transaction e ≡ b → To (record { tally = entered b (record (tally_in a) { player = rules.answered a.player r; stage = begins (row_for props) }) (row_for props) (stand_of e); over = []; end = None })
    entered_on r served last true now = goes_untold a _ (opens laws c s a v e running before stands asks shut_before props room is again r served now last ahead)
    entered_on r served last false shut = pass_on r served last shut

    begin_turns : (answer : Answer) → Served s answer v e → IsLast s v answer e → To (Took (Begin props room) answer)
    begin_turns (Reply r) served last = entered_on r served last (in_transaction e) refl
    begin_turns (Committed at wrote) served last = absurd (no_commit s v e shut_before at wrote served)
    begin_turns (Conflict clock word) served last = try_on served refl served.tells.closes.closed served.tells.looks (lost laws c s a v e running before stands asks shut_before clock word served)
    begin_turns (Restarted clock word) served last = absurd (true≢false (sym served.tells.still.0 ∙ shut_before))
    begin_turns (Busy clock) served last = try_on served refl served.tells.closes.closed served.tells.looks (busy laws c s a v e running before stands asks shut_before clock served)
    begin_turns (Full at) served last = ends_so a (tally_in a) [] (none_told a (begin_over laws c s a v e running before stands asks shut_before served refl)) served.tells.closes.closed (inl (full_begin s v e at served))

  -- ## Another call

  module _ (other : is_begin s.call ≡ false) where
    abbrev Other : Answer → Taken P
    Other answer = took_in rules c.retries (record (tally_in a) { stage = outside }) s.call answer (stand_of e)

    other_turns : (answer : Answer) → Served s answer v e → IsLast s v answer e → To (Other answer)
    other_turns answer served last =
        let only = only_replies s v e shut_before other answer served last in
        let told : IsLast s v (Reply only.0) e = subst (λ (x : Answer). IsLast s v x e) only.1 last in
        subst (λ (x : Answer). To (Other x)) (sym only.1) (pass_on only.0 (subst (λ (x : Answer). Served s x v e) only.1 served) told (stays_shut s v e shut_before other only.0 told))

  -- ## Any call

  no_begin : (call : Call) → is_begin call ≡ false → stage_at outside call row_for ahead ≡ outside
  no_begin (Begin props room) other = absurd (cc)
  no_begin call other = refl

  pub outside_turns : s.again ≡ begins_again outside a.again s.call → (answer : Answer) → Served s answer v e → IsLast s v answer e → To (Took s.call answer)
  outside_turns again answer served last = by_call s.call refl
    where
      by_call : (call : Call) → s.call ≡ call → To (Took s.call answer)
      by_call (Begin props room) is = subst (λ (call : Call). To (Took call answer)) (sym is) (begin_turns props room is (again ∙ ap (begins_again outside a.again) is) answer served last)
      by_call call is =
          let other : is_begin s.call ≡ false = ap is_begin is in
          subst (λ (g : Stage). To (took_in rules c.retries (record (tally_in a) { stage = g }) s.call answer (stand_of e))) (sym (no_begin s.call other)) (other_turns other answer served last)
