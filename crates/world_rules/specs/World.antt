-- What contracts see of a world.
use Rattle.std.specs.Prelude.{◌≡◌, ℕ, ◌+◌, ◌-◌, ◌^◌, min, Bool, true, false, List, ◌++◌, Option, None, Some, Result, Ok, Err, slice_get}
use Rattle.std.specs.Option.{option_and_then, option_map}
use Rattle.itm_types.specs.declared.limits.Limits.{Limits}
use Rattle.itm_types.specs.declared.step.Step.{Step}
use Rattle.itm_types.specs.Memory.{bytes_of}
use Rattle.tx_attempts.specs.declared.attempt.Attempt.{Attempt}
use Rattle.tx_runs.specs.declared.ending.End.{End}
use Rattle.tx_runs.specs.declared.ending.End.TheVariants.{Finished, GaveUp, NoMemory}
use Rattle.world_rules.specs.declared.fault.WorldFault.{WorldFault}
use Rattle.world_rules.specs.declared.fault.WorldFault.TheVariants as faults
use Rattle.world_rules.specs.declared.setup.Setup.{Setup}
use Rattle.world_rules.specs.Rows.{Rows}
use Rattle.world_rules.specs.Stages.{active_of, opens}
use Rattle.world_rules.specs.Actor.{Actor}
use Rattle.world_rules.specs.declared.operation.Operation.{Operation}
use Rattle.world_rules.specs.Cells.{Cells, found}
use Rattle.world_rules.specs.Status.{ending_of, waiting_step}
use Rattle.world_rules.specs.Headline.{Observed}

pub record World (P : Type 0) : Type 0 where
  pub opening : List P  -- the players as they were handed in
  pub base : List ℕ  -- the memory as it was handed in
  pub arena : ℕ  -- the bytes of each actor's arena
  pub limits : Limits  -- of each actor's transactions
  pub cells : Cells
  pub actors : List (Actor P)
  pub attempts : Rows  -- those that have ended
  pub events : ℕ

-- it has this memory, arenas of this size and these limits
pub record IsSetUp {P : Type 0} (setup : Setup) (w : World P) : Type 0 where
  pub base : w.base ≡ setup.bytes
  pub arena : w.arena ≡ setup.arena
  pub limits : w.limits ≡ setup.limits

-- it is a world of the same beginning
pub record SameOpening {P : Type 0} (old new : World P) : Type 0 where
  pub opening : new.opening ≡ old.opening
  pub base : new.base ≡ old.base
  pub arena : new.arena ≡ old.arena
  pub limits : new.limits ≡ old.limits

-- so many events more, standing still at the highest number
abbrev pub counted : ℕ → ℕ → ℕ
counted events more = min (events + more) (2 ^ 64 - 1)

-- the attempts that have ended, and then the open ones
abbrev pub attempts_of : {P : Type 0} → World P → List Attempt
attempts_of w = w.attempts.ended ++ opens w.actors

-- the shared memory
abbrev pub memory_of : {P : Type 0} → World P → List ℕ
memory_of w = bytes_of w.cells.words

-- what is seen of it from outside
abbrev pub observed : {P : Type 0} → World P → Observed P
observed w = record { players = w.opening; base = w.base; arena = w.arena; limits = w.limits; attempts = attempts_of w; clock = w.cells.clock; bytes = memory_of w }

-- how one of these actors ended
abbrev pub ending_in : {P : Type 0} → List (Actor P) → ℕ → Option End
ending_in actors actor = option_and_then (λ a. ending_of a.status) (slice_get actors actor)

-- how the actor ended
abbrev pub ending_at : {P : Type 0} → World P → ℕ → Option End
ending_at w actor = ending_in w.actors actor

-- what an event is answered, by how its actor stands then
abbrev pub event_result : Option End → Result (Unit {0}) WorldFault
event_result None = Ok tt
event_result (Some Finished) = Ok tt
event_result (Some GaveUp) = Ok tt
event_result (Some NoMemory) = Err faults.NoMemory

-- the operation was done
abbrev pub is_event : Result (Unit {0}) WorldFault → Bool
is_event (Ok done) = true
is_event (Err faults.NoSuchActor) = false
is_event (Err faults.Ended) = false
is_event (Err faults.NoMemory) = true

-- the operation that comes next from the actor
abbrev pub waits_at : {P : Type 0} → World P → ℕ → Option Step
waits_at w actor = option_and_then (λ a. waiting_step a.status) (slice_get w.actors actor)

-- with what it finds
abbrev pub operation_at : {P : Type 0} → World P → ℕ → Option Operation
operation_at w actor = option_map (λ step. record { step = step; found = found w.cells step }) (waits_at w actor)

-- the open attempt of the actor
abbrev pub attempt_at : {P : Type 0} → World P → ℕ → Option Attempt
attempt_at w actor = option_and_then active_of (slice_get w.actors actor)
