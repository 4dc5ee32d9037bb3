-- What the items of a schedule make of a world, whole or begun.
use Rattle.std.specs.Prelude.{◌≡◌, ◌⊎◌, ℕ, ◌≤◌, List, [], ◌∷◌, replicate, IsSome, Result}
use Rattle.world_rules.specs.declared.fault.WorldFault.{WorldFault}
use Rattle.world_rules.specs.World.{World, ending_at}
use Rattle.world_rules.specs.WorldEvents.{Leads, Takes}
use Rattle.script_program.specs.declared.schedule.Item.{Item}
use Rattle.script_program.specs.declared.schedule.Item.TheVariants.{Take, Out}
use Rattle.tx_player.specs.Rules.{Rules}

module _ {P : Type 0} (rules : Rules P) where
  -- What an item asks for leads from the one world to the other: so many events of the thread, of which those after its end are passed over; or as many as lead to its end.
  abbrev pub ItemLeads : Item → World P → World P → Type 0
  ItemLeads (Take thread count) old new = (results : List (Result (Unit {0}) WorldFault)) × Leads rules old (replicate count thread) results new
  ItemLeads (Out thread) old new = (n : ℕ) × Takes rules thread n old new × IsSome (ending_at new thread)

  -- one item after the other leads from the one world to the other
  abbrev pub ItemsLead : List Item → World P → World P → Type 0
  ItemsLead [] old new = new ≡ old
  ItemsLead (item ∷ items) old new = (between : World P) × ItemLeads item old between × ItemsLead items between new

  -- the first events that an item asks for, some or all, lead from the one world to the other
  abbrev pub ItemBegins : Item → World P → World P → Type 0
  ItemBegins (Take thread count) old new = (n : ℕ) × (n ≤ count) × (results : List (Result (Unit {0}) WorldFault)) × Leads rules old (replicate n thread) results new
  ItemBegins (Out thread) old new = (n : ℕ) × Takes rules thread n old new

  -- so do the first events that the items ask for, one item after the other
  abbrev pub ItemsBegin : List Item → World P → World P → Type 0
  ItemsBegin [] old new = new ≡ old
  ItemsBegin (item ∷ items) old new = ItemBegins item old new ⊎ ((between : World P) × ItemLeads item old between × ItemsBegin items between new)
