-- The engine in a transaction of either kind.
use Rattle.std.specs.Prelude.{◌≡◌, ℕ, Bool, true, false, Result, MatchResult}
use Rattle.itm_types.specs.declared.call.Call.{Call}
use Rattle.norec_core.specs.Core.{Core}
use Rattle.norec_core.specs.Phases.{Phase}
use Rattle.norec_data.specs.declared.data.Data.{Data}
use Rattle.norec_data.specs.declared.turn.Turn.{Turn}
use Rattle.norec_data.specs.declared.turn.Turn.TheVariants.{Wait, End, EndIrrevocable}
use Rattle.norec_data.specs.Turns.{data_after, next_of, pending_after, phase_after}
use Rattle.norec_data.specs.declared.pending.Pending.{Pending}
use Rattle.norec_core.specs.declared.answer.Next.{Next}
use Rattle.norec_data.specs.View.{core, held, phase_of}
use Rattle.norec_turns.specs.InPhases.{IsSound}
use Rattle.norec_turns.specs.Moves.{CallStarves, CallTurns, StepTurns}
use Rattle.norec_irrevocable.specs.Moves.{HeldCallStarves, HeldCallTurns, HeldStepTurns}
use Rattle.norec_irrevocable.specs.Phases.{IsSoundHeld}

-- as its callers see it
abbrev pub engine_in : Bool → Data → Phase → Core
engine_in false d phase = core d phase
engine_in true d phase = held d phase

abbrev pub IsSoundIn : Bool → Data → Phase → Type 0
IsSoundIn false d phase = IsSound d phase
IsSoundIn true d phase = IsSoundHeld d phase

-- the call came, and this came of it
abbrev pub CallTurnsIn : Bool → Data → Call → Bool → Turn → Data → Type 0
CallTurnsIn false old call again turn new = CallTurns old call again turn new
CallTurnsIn true old call again turn new = HeldCallTurns old call turn new

-- no memory was found for it
abbrev pub CallStarvesIn : Bool → Data → Call → Data → Type 0
CallStarvesIn false old call new = CallStarves old call new
CallStarvesIn true old call new = HeldCallStarves old call new

-- a call's whole answer
abbrev pub CallComesIn : {E : Type 0} → Bool → Data → Call → Bool → Result Turn E → Data → Type 0
CallComesIn irrevocable old call again result new = MatchResult result (λ turn. CallTurnsIn irrevocable old call again turn new) (λ e. CallStarvesIn irrevocable old call new)

-- the value of a step was handed in, and this came of it
abbrev pub StepTurnsIn : Bool → Data → Phase → ℕ → Turn → Data → Type 0
StepTurnsIn false old phase seen turn new = StepTurns old phase seen turn new
StepTurnsIn true old phase seen turn new = HeldStepTurns old phase seen turn new

-- whether its transaction is irrevocable after a turn
abbrev pub mode_after : Bool → Turn → Bool
mode_after irrevocable (Wait p) = irrevocable
mode_after irrevocable (End end) = false
mode_after irrevocable (EndIrrevocable end) = true

abbrev pub engine_after : Bool → Turn → Data → Core
engine_after irrevocable turn d = engine_in (mode_after irrevocable turn) (data_after turn d) (phase_after turn d)

abbrev pub IsSoundWith : Bool → Turn → Data → Type 0
IsSoundWith irrevocable turn d = IsSoundIn (mode_after irrevocable turn) (data_after turn d) (phase_after turn d)

-- a turn was taken: these fields are left, and this comes next
pub record IsTaken (was : Bool) (turn : Turn) (old : Data) (what : Next) (new : Data) (p : Pending) (irrevocable : Bool) : Type 0 where
  pub state : new ≡ data_after turn old
  pub pending : p ≡ pending_after turn
  pub mode : irrevocable ≡ mode_after was turn
  pub next : what ≡ next_of turn old

-- the value of the step was handed in, and the turn that came of it was taken
pub record IsHandedIn (was : Bool) (old : Data) (at : Pending) (seen : ℕ) (what : Next) (new : Data) (p : Pending) (irrevocable : Bool) : Type 0 where
  pub turn : Turn
  pub left : Data
  pub turns : StepTurnsIn was old (phase_of old at) seen turn left
  pub taken : IsTaken was turn left what new p irrevocable
