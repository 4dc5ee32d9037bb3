use Rattle.std.proofs.Common.{◌≡◌}
use Rattle.run_commands.proofs.Common.{array_vec_len, endings_of}
use Rattle.run_commands.proofs.running.endings.Given as goal

abbrev pub invariant-loop-thread : goal.invariant-loop-thread
invariant-loop-thread l = record {
  items : l.endings.items ≡ endings_of l.thread l.world;
  len : array_vec_len l.endings ≡ l.thread;
}
