-- A call of the open transaction, by its answer.
use Rattle.std.proofs.Common.{◌≡◌, ℕ, Bool, true, false, true≢false, nat_lt, List, Some, refl, sym, ◌∙◌, arith, inl}
use Rattle.worker_rules.proofs.Common.{Account, Answer, Attempt, Busy, Committed, Conflict, Core, Course, Full, IsRunning, Obeys, Replied, Reply, Restarted, Rules, Savepoint, Served, Stands, Start, Taken, View, in_transaction, over_as, savepoints_after, stand_of, tally_in, took_in, with_call, within}
use Rattle.tx_attempts.specs.declared.attempt.Outcome.TheVariants as outcomes
use Rattle.worker_rules.proofs.Laws.Outcomes.{Turns, ends_so, goes_told, goes_untold, tries_so}
use Rattle.worker_rules.proofs.Machines.LastEvents.{IsLast}
use Rattle.worker_rules.proofs.Shapes.{with_room}
use Rattle.worker_rules.proofs.Transactions.Replies.{backs, cancels, commits, stays}
use Rattle.worker_rules.proofs.Transactions.Stops.{conflict_run, conflicts, full_run}
use Rattle.tx_runs.specs.Tallies.{went_on}

module _ {P : Type 0} {rules : Rules P} (laws : Obeys rules) (c : Course P) (s : Start) (a : Account P) (v : View) (e : Core) (running : IsRunning rules c s.view s.engine a) (before : Stands s.view s.engine) (stands : Stands v e)
    (asks : rules.next_call a.player ≡ Some s.call) (first_time : s.again ≡ false) (inside : in_transaction s.engine ≡ true) (ahead : ℕ) where
  -- the open attempt as the call comes
  abbrev pub row : Attempt
  row = with_room ahead (running.inside inside).row

  abbrev pub points : List Savepoint
  points = (running.inside inside).points

  abbrev pub Took : Answer → Taken P
  Took answer = took_in rules c.retries (record (tally_in a) { stage = within (with_room ahead (running.inside inside).row) (running.inside inside).points }) s.call answer (stand_of e)

  reply_on : (r : Replied) → Served s (Reply r) v e → IsLast s v (Reply r) e → (b : Bool) → in_transaction e ≡ b
      → Turns rules c s.engine.max_commits a v e (went_on b (record (tally_in a) { player = rules.answered a.player r; stage = within row points }) (with_call s.call r row) (savepoints_after points row (record { call = s.call; reply = r })) (stand_of e))
  reply_on r served last true now = goes_untold a _ (stays laws c s a v e running before stands asks first_time inside r served ahead last now)
  reply_on r served last false shut = goes_told a _ _ (cancels laws c s a v e running before stands asks first_time inside r served last shut)

  pub inside_turns : (answer : Answer) → Served s answer v e → IsLast s v answer e → Turns rules c s.engine.max_commits a v e (Took answer)
  inside_turns (Reply r) served last = reply_on r served last (in_transaction e) refl
  inside_turns (Committed at wrote) served last = goes_told a _ _ (commits laws c s a v e running before stands asks first_time inside at wrote served)
  inside_turns (Conflict clock word) served last =
      tries_so a (record (tally_in a) { player = rules.restarted a.player }) (over_as outcomes.Conflict (stand_of e) (within row points)) (conflict_run laws c s a v e running before stands asks inside clock word served) served.tells.closes.closed
      (λ more. (let looked = (running.inside inside).looked in let later = served.went.looks in omega arith))
      (conflicts laws c s a v e running before stands asks inside clock word served) (nat_lt c.retries a.nth) refl
  inside_turns (Restarted clock word) served last = goes_untold a _ (backs laws c s a v e running before stands asks first_time inside clock word served ahead last)
  inside_turns (Busy clock) served last = absurd (true≢false (sym inside ∙ served.tells.was_closed))
  inside_turns (Full at) served last = (let full = full_run laws c s a v e running before stands asks inside at served in ends_so a (tally_in a) _ full.0 served.tells.closes.closed (inl full.1))
