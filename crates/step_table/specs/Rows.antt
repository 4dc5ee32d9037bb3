-- The events of a world as rows, and which rows a schedule gives.
use Rattle.std.specs.Prelude.{◌≡◌, ◌⊎◌, ℕ, ◌<◌, ◌≤◌, Bool, List, [], ◌∷◌, ◌++◌, drop, length, Option, Some, IsSome}
use Rattle.std.specs.Option.{option_map}
use Rattle.world_rules.specs.Progress.{TellsEvent}
use Rattle.world_rules.specs.World.{World, attempt_at, ending_at, event_result, operation_at}
use Rattle.world_rules.specs.WorldEvents.{Goes}
use Rattle.script_program.specs.declared.schedule.Item.{Item}
use Rattle.script_program.specs.declared.schedule.Item.TheVariants.{Take, Out}
use Rattle.step_table.specs.declared.event.Event.{Event}
use Rattle.tx_attempts.specs.declared.attempt.Attempt.{Attempt}
use Rattle.tx_player.specs.Rules.{Rules}
use Rattle.tx_runs.specs.declared.ending.End.{End}

-- an event, and what came of it
pub record Row : Type 0 where
  pub event : Event
  pub goes_on : Bool  -- its call
  pub had : Option ℕ  -- calls of the open attempt had a reply before it; none, where no attempt was open
  pub calls : ℕ  -- of the open attempt have a reply once the operation is done
  pub ended : List Attempt  -- with it
  pub active : Option Attempt  -- the attempt of its thread that is open after it
  pub ending : Option End  -- of its thread

-- each is of the thread
abbrev pub AreOf : ℕ → List Row → Type 0
AreOf thread [] = Unit {0}
AreOf thread (row ∷ rows) = (row.event.thread ≡ thread) × AreOf thread rows

module _ {P : Type 0} (rules : Rules P) where
  -- the event leads from the one world to the other: its thread waited for this operation, which finds this value; it has this number, the clock stands so after it, and this came of it
  pub record IsRow (old : World P) (row : Row) (new : World P) : Type 0 where
    pub operation : operation_at old row.event.thread ≡ Some row.event.operation
    pub goes : Goes rules row.event.thread old (event_result (ending_at new row.event.thread)) new
    pub number : row.event.number ≡ new.events
    pub clock : row.event.clock ≡ new.cells.clock
    pub had : row.had ≡ option_map (λ a. length a.calls.list) (attempt_at old row.event.thread)
    pub told : TellsEvent rules row.event.thread row.goes_on row.calls old new
    pub ended : row.ended ≡ drop (length old.attempts.ended) new.attempts.ended
    pub active : row.active ≡ attempt_at new row.event.thread
    pub ending : row.ending ≡ ending_at new row.event.thread

  -- one event after the other leads from the one world to the other
  abbrev pub AreRows : World P → List Row → World P → Type 0
  AreRows old [] new = new ≡ old
  AreRows old (row ∷ rows) new = (between : World P) × IsRow old row between × AreRows between rows new

  -- these are events of the thread alone
  pub record RowsOf (thread : ℕ) (old : World P) (rows : List Row) (new : World P) : Type 0 where
    pub leads : AreRows old rows new
    pub mine : AreOf thread rows

  -- so many events of the thread
  abbrev pub SoMany : ℕ → ℕ → World P → List Row → World P → Type 0
  SoMany thread count old rows new = RowsOf thread old rows new × (length rows ≡ count)

  -- all that an item asks for: so many events of its thread, or fewer, up to the thread's end; or as many as lead to its end
  abbrev pub ItemRows : Item → World P → List Row → World P → Type 0
  ItemRows (Take thread count) old rows new = RowsOf thread old rows new × (length rows ≤ count) × (length rows < count → IsSome (ending_at new thread))
  ItemRows (Out thread) old rows new = RowsOf thread old rows new × IsSome (ending_at new thread)

  -- the first ones of them, some or all
  abbrev pub ItemFirst : Item → World P → List Row → World P → Type 0
  ItemFirst (Take thread count) old rows new = RowsOf thread old rows new × (length rows ≤ count)
  ItemFirst (Out thread) old rows new = RowsOf thread old rows new

  -- all that the items ask for, one item after the other
  abbrev pub ScheduleRows : List Item → World P → List Row → World P → Type 0
  ScheduleRows [] old rows new = (rows ≡ []) × (new ≡ old)
  ScheduleRows (item ∷ items) old rows new = (between : World P) × (first : List Row) × (later : List Row) × (rows ≡ first ++ later) × ItemRows item old first between × ScheduleRows items between later new

  -- the first ones of them
  abbrev pub ScheduleFirst : List Item → World P → List Row → World P → Type 0
  ScheduleFirst [] old rows new = (rows ≡ []) × (new ≡ old)
  ScheduleFirst (item ∷ items) old rows new = ItemFirst item old rows new
      ⊎ ((between : World P) × (first : List Row) × (later : List Row) × (rows ≡ first ++ later) × ItemRows item old first between × ScheduleFirst items between later new)
