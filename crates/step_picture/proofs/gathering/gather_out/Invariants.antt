use Rattle.std.proofs.Common.{◌≡◌, length}
use Rattle.step_picture.proofs.Common.{Gathered, LeavesNoMore, RowsOf, run_left_at, whole_at}
use Rattle.step_picture.proofs.gathering.gather_out.Given as goal

abbrev pub invariant-loop-alloc : goal.invariant-loop-alloc
invariant-loop-alloc g l = record {
  gathers : Gathered l.view (RowsOf g.P.Player l.thread) l.fn.world l.world l.fn.marks.items l.marks.items;
  actors : length l.world.actors ≡ length l.fn.world.actors;
  less : LeavesNoMore g.P.Player l.thread l.fn.world l.world;
}

abbrev pub decreases-loop-alloc : goal.decreases-loop-alloc
decreases-loop-alloc g l = run_left_at g.P.Player l.thread (whole_at g.P.Player l.thread l.fn.world) l.world
