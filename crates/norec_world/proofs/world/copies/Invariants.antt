use Rattle.std.proofs.Common.{◌≡◌, take}
use Rattle.norec_world.proofs.world.copies.Given as goal

abbrev pub invariant-loop-player : goal.invariant-loop-player
invariant-loop-player g l = l.copies.items ≡ take l.player-index l.players
