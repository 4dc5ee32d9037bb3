use Rattle.std.proofs.Common.{◌≡◌, length, replicate, Ok}
use Rattle.run_commands.proofs.Common.{SendsEnded}
use Rattle.run_commands.proofs.Items.{IsLed}
use Rattle.run_commands.proofs.playing.take_events.Given as goal

abbrev pub invariant-loop-taken : goal.invariant-loop-taken
invariant-loop-taken g l = record {
  sends : SendsEnded {A = Unit {0}} g.W.Write.contents l.fn.world l.world l.fn.stream l.stream (Ok tt);
  led : IsLed g.P.Player l.fn.world (replicate l._taken l.thread) l.world;
  actors : length l.world.actors ≡ length l.fn.world.actors;
}
