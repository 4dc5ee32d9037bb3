-- An outermost begin and its step at once.
use Rattle.std.specs.Prelude.{◌≡◌, ℕ, Bool}
use Rattle.itm_types.specs.declared.call.Call.TheVariants.{Begin as Begins}
use Rattle.itm_types.specs.declared.call.Props.{Props}
use Rattle.norec_core.specs.Phases.{Begin, Idle}
use Rattle.norec_data.specs.declared.data.Data.{Data}
use Rattle.norec_data.specs.declared.end.CallEnd.{CallEnd}
use Rattle.norec_data.specs.declared.pending.Pending.TheVariants as waits
use Rattle.norec_data.specs.declared.turn.Turn.TheVariants.{End, Wait}
use Rattle.norec_data.specs.Turns.{counted}
use Rattle.norec_data.specs.View.{core}
use Rattle.norec_turns.specs.InPhases.{IsSound}
use Rattle.norec_turns.specs.Moves.{CallTurns, StepTurns}

-- the begin came, the clock that it asked for was this, and so it ended. Fields that no caller sees between two calls may be others than those that the step left
pub record BeginTurns (old : Data) (props : Props) (room : ℕ) (again : Bool) (seen : ℕ) (end : CallEnd) (new : Data) : Type 0 where
  pub mid : Data
  pub last : Data
  pub called : CallTurns old (Begins props room) again (Wait waits.Begin) mid
  pub resumed : StepTurns (counted mid) (Begin mid.opening) seen (End end) last
  pub same : core last Idle ≡ core new Idle
  pub sound : IsSound new Idle
