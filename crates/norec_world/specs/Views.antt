-- The fields of a world as what contracts see.
use Rattle.norec_world.specs.declared.world.World.TheInside.{Inside}
use Rattle.world_rules.specs.Rows.{rows_in}
use Rattle.world_rules.specs.World.{World}

abbrev pub world_of : {P : Type 0} → Inside P → World P
world_of w = record {
  opening = w.opening.items;
  base = w.base;
  arena = w.terms.arena;
  limits = w.terms.limits;
  cells = w.memory;
  actors = w.actors.items;
  attempts = rows_in w.ended;
  events = w.events;
}
