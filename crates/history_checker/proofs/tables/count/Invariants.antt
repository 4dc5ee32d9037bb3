use Rattle.std.proofs.Common.{◌≡◌, ◌≤◌, take}
use Rattle.history_checker.proofs.Common.{count_committed}
use Rattle.history_checker.proofs.tables.count.Given as goal

abbrev pub invariant-loop-attempt : goal.invariant-loop-attempt
invariant-loop-attempt l = record {
  counted : l.count ≡ count_committed (take l.attempt-index l.attempts);
  few : l.count ≤ l.attempt-index;
}
