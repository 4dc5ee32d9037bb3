use Rattle.std.proofs.Common.{take, flat_map}
use Rattle.step_table.proofs.Common.{Appends, column_text}
use Rattle.step_table.proofs.columns.put_columns.Given as goal

abbrev pub invariant-loop-thread : goal.invariant-loop-thread
invariant-loop-thread g l = Appends (g.W.Write.contents l.fn.writer) (g.W.Write.contents l.writer) (flat_map (column_text l.event) (take l.thread-index l.threads))
