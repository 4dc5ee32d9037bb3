-- What one event does to a world, and what many in a row do.
use Rattle.std.specs.Prelude.{◌≡◌, ℕ, zero, suc, ◌≤◌, ◌/◌, ◌↔◌, Bool, true, false, IsTrue, List, [], ◌∷◌, length, count_by, Some, IsSome, Result, Ok, Err, slice_get, slice_set}
use Rattle.itm_types.specs.declared.step.Step.{Step}
use Rattle.itm_types.specs.Memory.{IsMemory, Agrees}
use Rattle.world_rules.specs.declared.fault.WorldFault.{WorldFault}
use Rattle.world_rules.specs.declared.fault.WorldFault.TheVariants.{NoSuchActor, Ended, NoMemory}
use Rattle.world_rules.specs.declared.passes.Passes.{Passes}
use Rattle.norec_core.specs.Proceeds.{IsLawful}
use Rattle.norec_core.specs.Core.{in_transaction}
use Rattle.world_rules.specs.Actor.{Actor}
use Rattle.world_rules.specs.Cells.{cells_after}
use Rattle.world_rules.specs.Status.{waiting_step, is_ready}
use Rattle.world_rules.specs.Events.{IsEvent}
use Rattle.world_rules.specs.Commits.{CommitsInOrder}
use Rattle.world_rules.specs.Headline.{AreOpaque}
use Rattle.world_rules.specs.Tied.{AreTied}
use Rattle.world_rules.specs.Rows.{Rows}
use Rattle.world_rules.specs.Memories.{words_at}
use Rattle.world_rules.specs.World.{World, observed, SameOpening, ending_at, waits_at, event_result, is_event, counted}
use Rattle.tx_player.specs.Rules.{Rules}

-- what a transaction has read is of one memory, which the first commits left
abbrev pub HasRead : {P : Type 0} → ℕ → List ℕ → Rows → Actor P → Type 0
HasRead deepest base r a = in_transaction a.engine ≡ true → let memory = words_at deepest base r.ended (a.engine.snapshot / 2) in IsMemory a.engine.words memory × Agrees memory a.engine.log

module _ {P : Type 0} (rules : Rules P) where
  -- the actor has changed by an event, and no other one has
  abbrev pub ActorGoes : ℕ → World P → Actor P → World P → Type 0
  ActorGoes actor old a new = (a' : Actor P) × (new.actors ≡ slice_set old.actors actor a')
      × (event : IsEvent rules old.cells old.attempts a new.cells new.attempts a') × (is_ready a'.status ≡ false) × HasRead old.limits.depth old.base event.rows event.stepped

  -- the actor is asked for one event, and this comes of it
  pub record Goes (actor : ℕ) (old : World P) (result : Result (Unit {0}) WorldFault) (new : World P) : Type 0 where
    pub no_such : (result ≡ Err NoSuchActor) ↔ (length old.actors ≤ actor)  -- told exactly where there is no such actor
    pub ended : (result ≡ Err Ended) ↔ IsSome (ending_at old actor)  -- told exactly where it had ended
    pub event : IsTrue (is_event result) ↔ IsSome (waits_at old actor)  -- an event exactly where it waits for an operation
    pub answer : IsTrue (is_event result) → result ≡ event_result (ending_at new actor)  -- an event is answered by how the actor stands then
    pub lawful : (a : Actor P) (step : Step) → slice_get old.actors actor ≡ Some a → waiting_step a.status ≡ Some step → IsLawful a.engine step  -- the operation is a step of the algorithm
    pub operation : (step : Step) → waits_at old actor ≡ Some step → new.cells ≡ cells_after old.cells step  -- it is done, and changes no other cell
    pub counts : IsTrue (is_event result) → new.events ≡ counted old.events 1  -- an event is counted
    pub unchanged : is_event result ≡ false → new ≡ old  -- without one the world is as it was
    -- its actor alone has changed, by this event, and waits for its next operation or has ended
    pub event_of : (a : Actor P) → slice_get old.actors actor ≡ Some a → IsTrue (is_event result) → ActorGoes actor old a new
    pub commits : CommitsInOrder new  -- the commits are in order
    pub opaque : AreOpaque rules (observed new)  -- and the attempts opaque
    pub tied : AreTied rules new  -- which the engines and the words go with
    pub opening : SameOpening old new  -- the world keeps its beginning
    pub actors : length new.actors ≡ length old.actors  -- and its number of actors

  -- an entry of the schedule after the other, with these results, leads from the one world to the other
  abbrev pub Leads : World P → List ℕ → List (Result (Unit {0}) WorldFault) → World P → Type 0
  Leads old [] [] new = new ≡ old
  Leads old [] (result ∷ results) new = ⊥
  Leads old (actor ∷ schedule) [] new = ⊥
  Leads old (actor ∷ schedule) (result ∷ results) new = (between : World P) × Goes actor old result between × Leads between schedule results new

  -- so many events of the actor in a row lead from the one world to the other
  abbrev pub Takes : ℕ → ℕ → World P → World P → Type 0
  Takes actor zero old new = new ≡ old
  Takes actor (suc n) old new = (before : World P) × (result : Result (Unit {0}) WorldFault) × Takes actor n old before × IsTrue (is_event result) × Goes actor before result new

-- an event, after which the actor goes on or has ended for another reason than want of memory
abbrev pub is_taken : Result (Unit {0}) WorldFault → Bool
is_taken (Ok done) = true
is_taken (Err NoSuchActor) = false
is_taken (Err Ended) = false
is_taken (Err NoMemory) = false

-- no event
abbrev pub is_passed : Result (Unit {0}) WorldFault → Bool
is_passed (Ok done) = false
is_passed (Err NoSuchActor) = true
is_passed (Err Ended) = true
is_passed (Err NoMemory) = false

-- an event, after which the actor had found no memory
abbrev pub is_starved : Result (Unit {0}) WorldFault → Bool
is_starved (Ok done) = false
is_starved (Err NoSuchActor) = false
is_starved (Err Ended) = false
is_starved (Err NoMemory) = true

-- how many results there are of each kind
abbrev pub passes_of : List (Result (Unit {0}) WorldFault) → Passes
passes_of results = record { taken = count_by is_taken results; passed = count_by is_passed results; starved = count_by is_starved results }
