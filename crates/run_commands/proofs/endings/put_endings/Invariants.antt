use Rattle.std.proofs.Common.{take}
use Rattle.run_commands.proofs.Common.{Appends, ending_lines}
use Rattle.run_commands.proofs.endings.put_endings.Given as goal

abbrev pub invariant-loop-thread : goal.invariant-loop-thread
invariant-loop-thread g l = Appends (g.E.Write.contents l.fn.errors) (g.E.Write.contents l.errors) (ending_lines 0 (take l.thread l.endings))
