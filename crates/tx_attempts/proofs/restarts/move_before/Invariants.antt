use Rattle.std.proofs.Common.{◌≡◌, vec_capacity}
use Rattle.tx_attempts.proofs.Common.{before}
use Rattle.tx_attempts.proofs.restarts.move_before.Given as goal

abbrev pub invariant-loop-again : goal.invariant-loop-again
invariant-loop-again l = record {
  list : l.list.items ≡ before l.kept l.yielded;
  kept : l.kept ≡ l.fn.kept;
  capacity : vec_capacity l.list ≡ vec_capacity l.fn.list;
}
