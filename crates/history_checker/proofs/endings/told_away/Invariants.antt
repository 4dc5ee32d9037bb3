use Rattle.std.proofs.Common.{◌≡◌, drop}
use Rattle.history_checker.proofs.Common.{told_away}
use Rattle.history_checker.proofs.endings.told_away.Given as goal

abbrev pub invariant-loop-i : goal.invariant-loop-i
invariant-loop-i l = told_away l.count l.attempts l.told ≡ told_away l.count (drop l.i l.attempts) (drop l.i l.told)
