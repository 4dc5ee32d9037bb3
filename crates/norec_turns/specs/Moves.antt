-- What a turn makes of the fields.
use Rattle.std.specs.Prelude.{◌≡◌, ℕ, true, Bool, Option, Result, MatchResult}
use Rattle.itm_types.specs.declared.call.Call.{Call}
use Rattle.norec_core.specs.declared.answer.Answer.{Answer}
use Rattle.norec_core.specs.Phases.{Phase}
use Rattle.norec_core.specs.Phases.{Idle}
use Rattle.norec_core.specs.Core.{came, Core, handed}
use Rattle.norec_core.specs.Endings.{ending_after, ending_at}
use Rattle.norec_core.specs.Order.{log_after, snapshot_after, stage_after, stage_at, tries_after, tries_at}
use Rattle.norec_core.specs.Proceeds.{Joins, MayStarve}
use Rattle.norec_data.specs.declared.data.Data.{Data}
use Rattle.norec_data.specs.declared.turn.Turn.{Turn}
use Rattle.norec_data.specs.Turns.{core_after, phase_after, Stays, TurnEndsSo, Turns}
use Rattle.norec_data.specs.View.{core, in_block}
use Rattle.norec_turns.specs.Between.{IsSoundTurn}
use Rattle.norec_turns.specs.InPhases.{IsSound}

-- ## Parts of a call or of a step

-- from here it goes on to this stage, or ends so, with the log and the snapshot as they were
pub record GoesTo (mid : Core) (stage : Phase) (so : Option Answer) (old : Data) (turn : Turn) (new : Data) : Type 0 where
  pub sound : IsSoundTurn turn new
  pub proceeds : Turns mid turn new
  pub stays : Stays old new
  pub order : phase_after turn new ≡ stage
  pub ends : TurnEndsSo so turn new
  pub tries : (core_after turn new).tries ≡ tries_after (phase_after turn new) old.tries

-- the same, for a value that is handed in
abbrev pub StepGoesTo : Data → Phase → ℕ → Turn → Data → Type 0
StepGoesTo old phase seen turn new = GoesTo (handed (core old phase) seen) (stage_after (core old phase) seen) (ending_after (core old phase) seen) old turn new

-- ## Steps

-- this value was handed in, and this came of it
pub record StepTurns (old : Data) (phase : Phase) (seen : ℕ) (turn : Turn) (new : Data) : Type 0 where
  pub sound : IsSoundTurn turn new
  pub proceeds : Turns (handed (core old phase) seen) turn new
  pub joins : Joins (core old phase) seen (core_after turn new)
  pub order : phase_after turn new ≡ stage_after (core old phase) seen
  pub ends : TurnEndsSo (ending_after (core old phase) seen) turn new
  pub tries : (core_after turn new).tries ≡ tries_after (phase_after turn new) (core old phase).tries
  pub snapshot : new.snapshot ≡ snapshot_after (core old phase) seen
  pub log : in_block new ≡ true → new.log.rows ≡ log_after (core old phase) seen

-- ## Calls

-- the call came, and this came of it
pub record CallTurns (old : Data) (call : Call) (again : Bool) (turn : Turn) (new : Data) : Type 0 where
  pub sound : IsSoundTurn turn new
  pub proceeds : Turns (came (core old Idle) call again) turn new
  pub stays : Stays old new
  pub order : phase_after turn new ≡ stage_at (core old Idle) call again
  pub ends : TurnEndsSo (ending_at (core old Idle) call) turn new
  pub tries : (core_after turn new).tries ≡ tries_at (phase_after turn new)

-- no memory was found for the call, and callers see nothing changed
pub record CallStarves (old : Data) (call : Call) (new : Data) : Type 0 where
  pub sound : IsSound new Idle
  pub same : core new Idle ≡ core old Idle
  pub starves : MayStarve (core old Idle) call

-- a call's whole answer, from which `turn` takes what comes of the call
abbrev pub ComesTo : {A E : Type 0} → (A → Turn) → Data → Call → Bool → Result A E → Data → Type 0
ComesTo turn old call again result new = MatchResult result (λ a. CallTurns old call again (turn a) new) (λ e. CallStarves old call new)

-- the same where it is told as it is
abbrev pub CallComes : {E : Type 0} → Data → Call → Bool → Result Turn E → Data → Type 0
CallComes old call again result new = MatchResult result (λ turn. CallTurns old call again turn new) (λ e. CallStarves old call new)
