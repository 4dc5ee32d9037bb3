use Rattle.std.proofs.Common.{◌≡◌, drop}
use Rattle.history_checker.proofs.Common.{at_fault}
use Rattle.history_checker.proofs.tables.beyond.Given as goal

abbrev pub invariant-loop-i : goal.invariant-loop-i
invariant-loop-i l = at_fault l.count 0 l.attempts ≡ at_fault l.count l.i (drop l.i l.attempts)
