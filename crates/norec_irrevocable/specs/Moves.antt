-- What a turn makes of the fields of an irrevocable transaction.
use Rattle.std.specs.Prelude.{◌≡◌, ℕ, false, List, None, Result, MatchResult}
use Rattle.itm_types.specs.declared.call.Call.{Call}
use Rattle.itm_types.specs.declared.call.Reply.{Reply as Replied}
use Rattle.itm_model.specs.Machine.{after, reply}
use Rattle.itm_model.specs.State.{State}
use Rattle.norec_core.specs.Phases.{Phase}
use Rattle.norec_core.specs.Core.{came, Core, handed}
use Rattle.norec_core.specs.Endings.{ending_after, ending_at}
use Rattle.norec_core.specs.Order.{snapshot_after, stage_after, stage_at}
use Rattle.norec_core.specs.Proceeds.{MayStarve}
use Rattle.norec_data.specs.declared.data.Data.{Data}
use Rattle.norec_data.specs.declared.turn.Turn.{Turn}
use Rattle.norec_data.specs.Turns.{phase_after, Stays, TurnEndsSo}
use Rattle.norec_data.specs.View.{core_held, held}
use Rattle.norec_irrevocable.specs.Outcomes.{kept, ComesBy, HeldTurns, IsSoundAfter, Steps}

-- ## Parts of a call or of a step

-- from here it goes on to this stage, or is replied to, and over every memory it comes to this state and this reply
pub record HeldGoesTo (mid : Core) (stage : Phase) (state : List ℕ → State) (told : List ℕ → Replied) (old : Data) (turn : Turn) (new : Data) : Type 0 where
  pub sound : IsSoundAfter turn new
  pub proceeds : HeldTurns mid turn new
  pub comes : ComesBy old state told turn new
  pub stays : Stays old new
  pub order : phase_after turn new ≡ stage
  pub ends : TurnEndsSo None turn new

-- ## Steps

-- this value was handed in, and this came of it
pub record HeldStepTurns (old : Data) (phase : Phase) (seen : ℕ) (turn : Turn) (new : Data) : Type 0 where
  pub sound : IsSoundAfter turn new
  pub proceeds : HeldTurns (handed (held old phase) seen) turn new
  pub steps : Steps old phase seen turn new
  pub stays : Stays old new
  pub order : phase_after turn new ≡ stage_after (held old phase) seen
  pub ends : TurnEndsSo (ending_after (held old phase) seen) turn new
  pub snapshot : new.snapshot ≡ snapshot_after (held old phase) seen

-- ## Calls

-- the call came, and this came of it
pub record HeldCallTurns (old : Data) (call : Call) (turn : Turn) (new : Data) : Type 0 where
  pub sound : IsSoundAfter turn new
  pub proceeds : HeldTurns (came (core_held old) call false) turn new
  pub comes : ComesBy old (λ m. after old.frames.depth (kept old m) call) (λ m. reply old.frames.depth (kept old m) call) turn new
  pub stays : Stays old new
  pub order : phase_after turn new ≡ stage_at (core_held old) call false
  pub ends : TurnEndsSo (ending_at (core_held old) call) turn new

-- no memory was found for the call, and nothing is changed
pub record HeldCallStarves (old : Data) (call : Call) (new : Data) : Type 0 where
  pub same : new ≡ old
  pub starves : MayStarve (core_held old) call

-- a call's whole answer
abbrev pub HeldCallComes : {E : Type 0} → Data → Call → Result Turn E → Data → Type 0
HeldCallComes old call result new = MatchResult result (λ turn. HeldCallTurns old call turn new) (λ e. HeldCallStarves old call new)
