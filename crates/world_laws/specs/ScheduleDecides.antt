-- A schedule decides everything: nothing that a world does is left free, but where memory is refused.
use Rattle.std.specs.Prelude.{◌≡◌, ℕ, List, Some, IsSome, Result, Err}
use Rattle.tx_runs.specs.declared.ending.End.TheVariants.{NoMemory as Starved}
use Rattle.world_rules.specs.declared.fault.WorldFault.{WorldFault}
use Rattle.world_rules.specs.declared.fault.WorldFault.TheVariants.{NoMemory}
use Rattle.world_rules.specs.World.{World, SameOpening, ending_at}
use Rattle.world_rules.specs.WorldEvents.{Goes, Leads, Takes, passes_of}
use Rattle.world_laws.specs.SameWorlds.{SameWorld, ShowSame}
use Rattle.world_rules.specs.Starts.{IsNew}
use Rattle.tx_player.specs.Rules.{Rules}

module _ {P : Type 0} (rules : Rules P) where
  -- two new worlds of equal beginning are the same
  abbrev pub BeginningDecides : Type 0
  BeginningDecides = (v w : World P) → IsNew rules v → IsNew rules w → SameOpening v w → SameWorld v w

  -- an event of the same actor is answered alike in both, and both are the same again
  abbrev pub EventDecides : Type 0
  EventDecides = (actor : ℕ) (v w v' w' : World P) (result result' : Result (Unit {0}) WorldFault) → SameWorld v w
      → Goes rules actor v result v' → Goes rules actor w result' w'
      → (result ≡ Err NoMemory → ⊥) → (result' ≡ Err NoMemory → ⊥) → (result ≡ result') × SameWorld v' w'

  -- so is each entry of a schedule
  abbrev pub EntriesDecide : Type 0
  EntriesDecide = (schedule : List ℕ) (v w v' w' : World P) (results results' : List (Result (Unit {0}) WorldFault)) → SameWorld v w
      → Leads rules v schedule results v' → Leads rules w schedule results' w'
      → (passes_of results).starved ≡ 0 → (passes_of results').starved ≡ 0 → (results ≡ results') × SameWorld v' w'

  -- an actor that runs to its end takes as many events in both, and both are the same again
  abbrev pub RunDecides : Type 0
  RunDecides = (actor n n' : ℕ) (v w v' w' : World P) → SameWorld v w
      → Takes rules actor n v v' → Takes rules actor n' w w' → IsSome (ending_at v' actor) → IsSome (ending_at w' actor)
      → (ending_at v' actor ≡ Some Starved → ⊥) → (ending_at w' actor ≡ Some Starved → ⊥) → (n ≡ n') × SameWorld v' w'

  -- and what is the same shows the same
  abbrev pub SameShows : Type 0
  SameShows = (v w : World P) → SameWorld v w → ShowSame v w

  -- The whole of it: two worlds of equal beginning, led on by the same entries with no memory refused, answer each entry alike, and show the same attempts, bytes, clock, events and endings.
  abbrev pub ScheduleDecides : Type 0
  ScheduleDecides = (schedule : List ℕ) (v w v' w' : World P) (results results' : List (Result (Unit {0}) WorldFault)) → IsNew rules v → IsNew rules w → SameOpening v w
      → Leads rules v schedule results v' → Leads rules w schedule results' w'
      → (passes_of results).starved ≡ 0 → (passes_of results').starved ≡ 0 → (results ≡ results') × ShowSame v' w'
