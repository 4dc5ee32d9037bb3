use Rattle.std.proofs.Common.{◌≡◌}
use Rattle.itmsteps.proofs.Common.{range_with_len}
use Rattle.arrayvec.specs.ArrayVec.{array_vec_len}
use Rattle.itmsteps.proofs.choice.all_threads.Given as goal

abbrev pub invariant-loop-thread : goal.invariant-loop-thread
invariant-loop-thread l = record {
  items : l.columns.items ≡ range_with_len 0 l.thread;
  len : array_vec_len l.columns ≡ l.thread;
}
