-- Events in a row that each leave their call a further step to take.
use Rattle.std.proofs.Common.{ℕ, zero, suc}
use Rattle.norec_world.proofs.Common.{Takes, World, takes_one}
use Rattle.norec_world.specs.Taken.{TakesOn}
use Rattle.tx_player.specs.Rules.{Rules}

-- they are so many events
pub takes_on : {P : Type 0} (rules : Rules P) (actor n : ℕ) (old new : World P) → TakesOn rules actor n old new → Takes rules actor n old new
takes_on rules actor zero old new f = f
takes_on rules actor (suc n) old new f = takes_one rules actor n old f.0 new (takes_on rules actor n old f.0 f.1) f.3
