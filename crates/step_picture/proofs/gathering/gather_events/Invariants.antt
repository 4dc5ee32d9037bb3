use Rattle.std.proofs.Common.{◌≡◌, length}
use Rattle.step_picture.proofs.Common.{Gathered, SoMany}
use Rattle.step_picture.proofs.gathering.gather_events.Given as goal

abbrev pub invariant-loop-taken : goal.invariant-loop-taken
invariant-loop-taken g l = record {
  gathers : Gathered l.view (SoMany g.P.Player l.thread l._taken) l.fn.world l.world l.fn.marks.items l.marks.items;
  actors : length l.world.actors ≡ length l.fn.world.actors;
}
