use Rattle.std.proofs.Common.{◌≡◌, length}
use Rattle.step_table.proofs.Common.{LeavesNoMore, RowsOf, run_left_at, whole_at}
use Rattle.step_table.proofs.ShownRows.{Written}
use Rattle.step_table.proofs.showing.run_out.Given as goal

abbrev pub invariant-loop-alloc : goal.invariant-loop-alloc
invariant-loop-alloc g l = record {
  shows : Written l.view (RowsOf g.P.Player l.thread) l.fn.world l.world (g.W.Write.contents l.fn.writer) (g.W.Write.contents l.writer);
  actors : length l.world.actors ≡ length l.fn.world.actors;
  less : LeavesNoMore g.P.Player l.thread l.fn.world l.world;
}

abbrev pub decreases-loop-alloc : goal.decreases-loop-alloc
decreases-loop-alloc g l = run_left_at g.P.Player l.thread (whole_at g.P.Player l.thread l.fn.world) l.world
