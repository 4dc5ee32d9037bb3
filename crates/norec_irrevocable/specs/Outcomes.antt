-- What comes of an event in an irrevocable transaction.
use Rattle.std.specs.Prelude.{ℕ, List, Some}
use Rattle.itm_types.specs.declared.call.Call.{Call}
use Rattle.itm_types.specs.declared.call.Reply.{Reply as Replied}
use Rattle.itm_types.specs.Memory.{IsMemory}
use Rattle.itm_model.specs.State.{State}
use Rattle.norec_core.specs.Phases.{Phase}
use Rattle.norec_core.specs.Phases.{Idle}
use Rattle.norec_core.specs.Core.{Core}
use Rattle.norec_core.specs.Held.{ComesTo, StepsHeld}
use Rattle.norec_core.specs.Proceeds.{Proceeds}
use Rattle.norec_core.specs.Stands.{state_kept}
use Rattle.norec_data.specs.declared.data.Data.{Data}
use Rattle.norec_data.specs.declared.turn.Turn.{Turn}
use Rattle.norec_data.specs.declared.turn.Turn.TheVariants.{Wait, End, EndIrrevocable}
use Rattle.norec_data.specs.Bounds.{IsHeld, IsOver}
use Rattle.norec_data.specs.Turns.{counted, next_of, IsWaiting}
use Rattle.norec_data.specs.View.{core, core_held, held, phase_of}
use Rattle.norec_irrevocable.specs.Phases.{IsSoundHeld}

-- ## A turn

abbrev pub held_after : Turn → Data → Core
held_after (Wait p) d = held (counted d) (phase_of d p)
held_after (End end) d = core d Idle
held_after (EndIrrevocable end) d = core_held d

abbrev pub IsSoundAfter : Turn → Data → Type 0
IsSoundAfter (Wait p) d = IsSoundHeld (counted d) (phase_of d p) × IsWaiting p
IsSoundAfter (End end) d = IsOver d
IsSoundAfter (EndIrrevocable end) d = IsHeld d

abbrev pub HeldTurns : Core → Turn → Data → Type 0
HeldTurns mid turn d = Proceeds mid (next_of turn d) (held_after turn d)

-- ## Between two steps

-- in this call, with these bytes gathered
abbrev pub in_call : Data → Call → List ℕ → Core
in_call d call bytes = record (core_held d) { doing = Some call; gathered = bytes }

-- the state that the transaction stands for, over this memory
abbrev pub kept : Data → List ℕ → State
kept d m = state_kept d.frames.blocks d.arena d.frames.actions m

-- over every memory the call comes to this state and this reply
abbrev pub ComesBy : Data → (List ℕ → State) → (List ℕ → Replied) → Turn → Data → Type 0
ComesBy d state reply turn new = (m : List ℕ) → IsMemory d.words m → ComesTo (state m) (reply m) (next_of turn new) (held_after turn new) m

-- as a step's value is handed in
abbrev pub Steps : Data → Phase → ℕ → Turn → Data → Type 0
Steps d phase seen turn new = StepsHeld (held d phase) seen (next_of turn new) (held_after turn new)
