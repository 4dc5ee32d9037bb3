use Rattle.std.proofs.Common.{◌≡◌, ℕ, length, Ok}
use Rattle.run_commands.proofs.Common.{LeavesNoMore, SendsEnded, Takes, run_left_at, whole_at}
use Rattle.run_commands.proofs.playing.run_out.Given as goal

abbrev pub invariant-loop-alloc : goal.invariant-loop-alloc
invariant-loop-alloc g l = record {
  sends : SendsEnded {A = Unit {0}} g.W.Write.contents l.fn.world l.world l.fn.stream l.stream (Ok tt);
  took : (n : ℕ) × Takes g.P.Player l.thread n l.fn.world l.world;
  actors : length l.world.actors ≡ length l.fn.world.actors;
  less : LeavesNoMore g.P.Player l.thread l.fn.world l.world;
}

abbrev pub decreases-loop-alloc : goal.decreases-loop-alloc
decreases-loop-alloc g l = run_left_at g.P.Player l.thread (whole_at g.P.Player l.thread l.fn.world) l.world
