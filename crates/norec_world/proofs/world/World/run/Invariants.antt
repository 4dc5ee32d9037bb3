use Rattle.norec_world.proofs.{AreOpaque, AreTied, CommitsInOrder, Leads, SameOpening, WorldFault, counted, observed, passes_of, ◌≡◌, ◌+◌, List, length, take, Result}
use Rattle.norec_world.proofs.world.World.run.Given as goal

abbrev pub invariant-loop-actor : goal.invariant-loop-actor
invariant-loop-actor g l = record {
  led : (results : List (Result (Unit {0}) WorldFault)) × Leads g.P.Player l.initial.self (take l.actor-index l.schedule) results l.self × (l.passes ≡ passes_of results);
  all : l.passes.taken + l.passes.passed + l.passes.starved ≡ l.actor-index;
  counts : l.self.events ≡ counted l.initial.self.events (l.passes.taken + l.passes.starved);
  commits : CommitsInOrder l.self;
  opaque : AreOpaque g.P.Player (observed l.self);
  tied : AreTied g.P.Player l.self;
  opening : SameOpening l.initial.self l.self;
  actors : length l.self.actors ≡ length l.initial.self.actors;
}
