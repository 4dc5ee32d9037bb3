use Rattle.std.proofs.Common.{◌≡◌, length, take}
use Rattle.step_picture.proofs.Common.{Gathered, ScheduleRows}
use Rattle.step_picture.proofs.gathering.gather.Given as goal

abbrev pub invariant-loop-item : goal.invariant-loop-item
invariant-loop-item g l = record {
  gathers : Gathered l.view (ScheduleRows g.P.Player (take l.item-index l.items)) l.fn.world l.world l.fn.marks.items l.marks.items;
  actors : length l.world.actors ≡ length l.fn.world.actors;
}
