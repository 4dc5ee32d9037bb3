use Rattle.std.proofs.Common.{◌≡◌, Some, map, take}
use Rattle.run_commands.proofs.Common.{array_vec_len}
use Rattle.run_commands.proofs.on_threads.endings.Given as goal

abbrev pub invariant-loop-thread : goal.invariant-loop-thread
invariant-loop-thread l = record {
  items : l.endings.items ≡ map Some (take l.thread l.ends);
  len : array_vec_len l.endings ≡ l.thread;
}
