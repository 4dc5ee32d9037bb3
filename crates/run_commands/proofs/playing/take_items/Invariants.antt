use Rattle.std.proofs.Common.{◌≡◌, length, take, Ok}
use Rattle.run_commands.proofs.Common.{ItemsLead, SendsEnded}
use Rattle.run_commands.proofs.playing.take_items.Given as goal

abbrev pub invariant-loop-item : goal.invariant-loop-item
invariant-loop-item g l = record {
  sends : SendsEnded {A = Unit {0}} g.W.Write.contents l.fn.world l.world l.fn.stream l.stream (Ok tt);
  leads : ItemsLead g.P.Player (take l.item-index l.items) l.fn.world l.world;
  actors : length l.world.actors ≡ length l.fn.world.actors;
}
