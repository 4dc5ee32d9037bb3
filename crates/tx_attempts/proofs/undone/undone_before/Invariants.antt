use Rattle.std.proofs.Common.{◌≡◌, take}
use Rattle.tx_attempts.proofs.Common.{before, count_undone}
use Rattle.tx_attempts.proofs.undone.undone_before.Given as goal

abbrev pub invariant-loop-again : goal.invariant-loop-again
invariant-loop-again l = record { count : l.count ≡ count_undone (before l.kept (take l.again-index l.restarts)) }
