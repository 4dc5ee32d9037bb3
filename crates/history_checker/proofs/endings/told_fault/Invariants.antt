use Rattle.std.proofs.Common.{◌≡◌, drop}
use Rattle.history_checker.proofs.Common.{told_fault}
use Rattle.history_checker.proofs.endings.told_fault.Given as goal

abbrev pub invariant-loop-i : goal.invariant-loop-i
invariant-loop-i l = told_fault 0 l.told ≡ told_fault l.i (drop l.i l.told)
