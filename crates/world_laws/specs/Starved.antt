-- Worlds whose actors found no memory, and what is told of those.
use Rattle.std.specs.Prelude.{◌≡◌, ℕ, false, List, All, Some, slice_get, Result}
use Rattle.world_rules.specs.Actor.{Actor}
use Rattle.world_rules.specs.declared.fault.WorldFault.{WorldFault}
use Rattle.world_rules.specs.Commits.{CommitsInOrder}
use Rattle.world_rules.specs.Starts.{IsNew}
use Rattle.world_rules.specs.Status.{ending_of}
use Rattle.world_rules.specs.Tied.{AreTied}
use Rattle.world_rules.specs.World.{World, attempts_of, ending_at}
use Rattle.world_rules.specs.WorldEvents.{Leads}
use Rattle.tx_attempts.specs.declared.attempt.Outcome.TheVariants.{Unfinished}
use Rattle.tx_player.specs.Rules.{Rules}
use Rattle.tx_runs.specs.declared.ending.End.TheVariants.{NoMemory}

module _ {P : Type 0} where
  -- no actor that found no memory has an irrevocable attempt
  abbrev pub IsFed : World P → Type 0
  IsFed w = (place : ℕ) (a : Actor P) → slice_get w.actors place ≡ Some a → ending_of a.status ≡ Some NoMemory → a.engine.irrevocable ≡ false

  -- in its history each attempt of a thread that found no memory has ended
  abbrev pub LeavesNoneOpen : World P → Type 0
  LeavesNoneOpen w = All (λ row. ending_at w row.thread ≡ Some NoMemory → row.outcome ≡ Unfinished → ⊥) (attempts_of w)

-- a world that a schedule led to leaves none open where it is fed
abbrev pub FedLeaveNoneOpen : {P : Type 0} → Rules P → Type 0
FedLeaveNoneOpen {P} rules = (schedule : List ℕ) (results : List (Result (Unit {0}) WorldFault)) (first w : World P) → IsNew rules first → Leads rules first schedule results w
    → CommitsInOrder w → AreTied rules w → IsFed w → LeavesNoneOpen w
