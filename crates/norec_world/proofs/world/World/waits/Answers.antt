use Rattle.norec_world.proofs.{opaque_as, tied_as}
use Rattle.norec_world.proofs.world.World.waits.Goals as goal

pub returns-clause-opaque : goal.returns-clause-opaque
returns-clause-opaque g c = opaque_as g.met.P.Player.laws c.self.view_is c.self.invariant

pub returns-clause-tied : goal.returns-clause-tied
returns-clause-tied g c = tied_as g.met.P.Player.laws c.self.view_is c.self.invariant

pub returns-in_err-get-clause-opaque : goal.returns-in_err-get-clause-opaque
returns-in_err-get-clause-opaque g c = opaque_as g.met.P.Player.laws c.self.view_is c.self.invariant

pub returns-in_err-get-clause-tied : goal.returns-in_err-get-clause-tied
returns-in_err-get-clause-tied g c = tied_as g.met.P.Player.laws c.self.view_is c.self.invariant
