use Rattle.std.proofs.Common.{◌≡◌}
use Rattle.run_commands.proofs.Common.{each_out}
use Rattle.run_commands.proofs.running.each_out.Given as goal

abbrev pub invariant-loop-thread : goal.invariant-loop-thread
invariant-loop-thread l = l.items.items ≡ each_out l.thread
