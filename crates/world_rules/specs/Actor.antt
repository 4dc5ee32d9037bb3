-- An actor of a world, with its engine as contracts see it.
use Rattle.norec_core.specs.Core.{Core}
use Rattle.world_rules.specs.declared.actor.Actor.{Actor as With}

abbrev pub Actor : Type 0 → Type 0
Actor P = With P Core
