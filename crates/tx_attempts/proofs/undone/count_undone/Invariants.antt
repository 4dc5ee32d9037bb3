use Rattle.std.proofs.Common.{◌≡◌, take}
use Rattle.tx_attempts.proofs.Common.{count_undone}
use Rattle.tx_attempts.proofs.undone.count_undone.Given as goal

abbrev pub invariant-loop-again : goal.invariant-loop-again
invariant-loop-again l = record { count : l.count ≡ count_undone (take l.again-index l.restarts) }
