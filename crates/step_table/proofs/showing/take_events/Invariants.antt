use Rattle.std.proofs.Common.{◌≡◌, length}
use Rattle.step_table.proofs.Common.{SoMany}
use Rattle.step_table.proofs.ShownRows.{Written}
use Rattle.step_table.proofs.showing.take_events.Given as goal

abbrev pub invariant-loop-taken : goal.invariant-loop-taken
invariant-loop-taken g l = record {
  shows : Written l.view (SoMany g.P.Player l.thread l._taken) l.fn.world l.world (g.W.Write.contents l.fn.writer) (g.W.Write.contents l.writer);
  actors : length l.world.actors ≡ length l.fn.world.actors;
}
