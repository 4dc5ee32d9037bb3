use Rattle.norec_world.proofs.{opaque_as, tied_as}
use Rattle.norec_world.proofs.world.World.events.Goals as goal

pub returns-clause-opaque : goal.returns-clause-opaque
returns-clause-opaque g c = opaque_as g.met.P.Player.laws c.self.view_is c.self.invariant

pub returns-clause-tied : goal.returns-clause-tied
returns-clause-tied g c = tied_as g.met.P.Player.laws c.self.view_is c.self.invariant
