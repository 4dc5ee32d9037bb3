use Rattle.std.proofs.Common.{◌≡◌, length, true, IsSome}
use Rattle.step_table.proofs.Common.{LeavesLessSoFar, RowsOf, call_left_at, waits_at}
use Rattle.step_table.proofs.ShownRows.{Written}
use Rattle.step_table.proofs.showing.finish_call.Given as goal

abbrev pub invariant-loop-goes_on : goal.invariant-loop-goes_on
invariant-loop-goes_on g l = record {
  shows : Written l.view (RowsOf g.P.Player l.thread) l.fn.world l.world (g.W.Write.contents l.fn.writer) (g.W.Write.contents l.writer);
  actors : length l.world.actors ≡ length l.fn.world.actors;
  waits : l.goes_on ≡ true → IsSome (waits_at l.world l.thread);
  less : LeavesLessSoFar g.P.Player l.thread l.goes_on l.fn.world l.world;
}

abbrev pub decreases-loop-goes_on : goal.decreases-loop-goes_on
decreases-loop-goes_on g l = call_left_at g.P.Player l.thread l.goes_on l.world
