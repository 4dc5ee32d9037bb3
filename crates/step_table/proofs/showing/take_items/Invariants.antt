use Rattle.std.proofs.Common.{◌≡◌, length, take}
use Rattle.step_table.proofs.Common.{ScheduleRows}
use Rattle.step_table.proofs.ShownRows.{Written}
use Rattle.step_table.proofs.showing.take_items.Given as goal

abbrev pub invariant-loop-item : goal.invariant-loop-item
invariant-loop-item g l = record {
  shows : Written l.view (ScheduleRows g.P.Player (take l.item-index l.items)) l.fn.world l.world (g.W.Write.contents l.fn.writer) (g.W.Write.contents l.writer);
  actors : length l.world.actors ≡ length l.fn.world.actors;
}
