-- What is told of the call in progress, and how a loop of events of one actor comes to its end. A loop's measure is one number, so it takes two loops: over the events of a call, and over the calls.
use Rattle.std.specs.Prelude.{◌≡◌, ℕ, Bool, true, false, Option, None, Some, is_some, slice_get}
use Rattle.std.specs.Option.{option_map_or}
use Rattle.itm_types.specs.declared.step.Step.{Step}
use Rattle.norec_core.specs.declared.answer.Next.{Next}
use Rattle.norec_core.specs.declared.answer.Next.TheVariants.{Step as Asks, Answer as Answers}
use Rattle.norec_core.specs.Core.{Core}
use Rattle.norec_core.specs.Order.{asked_from, stage_after}
use Rattle.tx_player.specs.Rules.{Rules}
use Rattle.world_rules.specs.Actor.{Actor}
use Rattle.world_rules.specs.Cells.{Cells, found}
use Rattle.world_rules.specs.Events.{IsEvent}
use Rattle.world_rules.specs.Sound.{HasLess}
use Rattle.world_rules.specs.Stages.{calls_of}
use Rattle.world_rules.specs.Status.{waiting_step}
use Rattle.world_rules.specs.World.{World}

-- ## Whether the call goes on

-- the engine, handed what its step finds on these cells, stands where a further step is asked for
abbrev pub asks_further : Cells → Core → Option Step → Bool
asks_further cells e None = false
asks_further cells e (Some step) = is_some (asked_from e (stage_after e (found cells step)))

-- the actor's next event leaves its call in progress a further step to take
abbrev pub goes_on_at : {P : Type 0} → World P → ℕ → Bool
goes_on_at w actor = option_map_or (λ a. asks_further w.cells a.engine (waiting_step a.status)) (slice_get w.actors actor) false

-- a step is asked for, and the call is not answered
abbrev pub is_step : Next → Bool
is_step (Asks step) = true
is_step (Answers answer) = false

module _ {P : Type 0} (rules : Rules P) where
  -- What is told of an actor's event is exact: its call goes on just where the engine, handed the value found, asked for a further step, and is over just where it was answered, whatever the player's next call does. The world before tells so, and so does each reading of the event.
  pub record TellsCall (actor : ℕ) (goes_on : Bool) (old new : World P) : Type 0 where
    pub before : goes_on ≡ goes_on_at old actor
    pub event : (a a' : Actor P) → slice_get old.actors actor ≡ Some a → (event : IsEvent rules old.cells old.attempts a new.cells new.attempts a') → goes_on ≡ is_step event.takes.what

  -- More is told of the event, by one reading of it: whether its call goes on, and how many calls of the open attempt had a reply as its step was done, before its local work.
  pub record TellsEvent (actor : ℕ) (goes_on : Bool) (calls : ℕ) (old new : World P) : Type 0 where
    pub call : TellsCall actor goes_on old new
    pub was : Actor P
    pub now : Actor P
    pub there : slice_get old.actors actor ≡ Some was
    pub here : slice_get new.actors actor ≡ Some now
    pub event : IsEvent rules old.cells old.attempts was new.cells new.attempts now
    pub asks : goes_on ≡ is_step event.takes.what
    pub replied : calls ≡ calls_of event.stepped

  -- ## How much is left

  -- an event of the actor leaves its call with fewer steps, or, where that call is over, less of the whole run
  abbrev pub LeavesLess : ℕ → Bool → World P → World P → Type 0
  LeavesLess actor goes_on old new = (a a' : Actor P) → slice_get old.actors actor ≡ Some a → slice_get new.actors actor ≡ Some a' → HasLess rules goes_on a a'
