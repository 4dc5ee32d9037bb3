use Rattle.norec_world.proofs.{AreOpen, World, are_open, opaque_as, tied_as, subst}
use Rattle.world_rules.specs.Stages.{opens}
use Rattle.norec_world.proofs.world.World.attempts.Goals as goal

pub returns-clause-unfinished : goal.returns-clause-unfinished
returns-clause-unfinished g c = subst (λ (w : World g.row.P.Denot). AreOpen (opens w.actors)) c.self.view_is (are_open c.self.invariant.actors)

pub returns-clause-opaque : goal.returns-clause-opaque
returns-clause-opaque g c = opaque_as g.met.P.Player.laws c.self.view_is c.self.invariant

pub returns-clause-tied : goal.returns-clause-tied
returns-clause-tied g c = tied_as g.met.P.Player.laws c.self.view_is c.self.invariant
