use Rattle.std.proofs.Common.{◌≡◌, drop}
use Rattle.history_checker.proofs.Common.{are_again}
use Rattle.history_checker.proofs.restarts.are_again.Given as goal

abbrev pub invariant-loop-again : goal.invariant-loop-again
invariant-loop-again l = are_again l.size 0 l.calls l.restarts ≡ are_again l.size l.from l.calls (drop l.again-index l.restarts)
