-- Calls of an irrevocable transaction that are refused, and what is said of those that make another one irrevocable.
use Rattle.std.proofs.Common.{◌≡◌, ℕ, true, false, List, length, Option, None, Some, refl, sym, ap, subst, ◌∙◌, is_none}
use Rattle.norec_irrevocable.proofs.Common.{Answer, Begin, Call, Copy, Copying, Data, EndIrrevocable, Idle, IsHeld, IsMemory, Mode, Props, Refusal, TurnEndsSo, access_of, access_refusal, cond-false, cond-true, cond_both, copy_refusal, core_held, going_stage, in_block, kept, refusal, refuses, stage_at}
use Rattle.norec_core.specs.declared.call_parts.Taking.TheVariants as takings
use Rattle.norec_core.specs.Endings.{ending_at, going_ending}
use Rattle.norec_data.proofs.RefusedAccesses.{access_ending, refused_stage}
use Rattle.norec_data.specs.declared.end.CallEnd.TheVariants as ends
use Rattle.norec_irrevocable.specs.Moves.{HeldCallTurns}
use Rattle.norec_irrevocable.proofs.Replies.HeldReplies.{denied, goes_nowhere}
use Rattle.norec_irrevocable.proofs.Replies.PartsOfCalls.{come}
use Rattle.norec_irrevocable.proofs.Replies.KeptStates.{access_kept, copy_kept}

-- ## No call makes it irrevocable once more

pub begin_stage : (d : Data) (props : Props) (room : ℕ) → in_block d ≡ true → stage_at (core_held d) (Begin props room) false ≡ Idle
begin_stage d props room o = cond-true (in_block d) _ _ o ∙ ap (λ (r : Option ℕ). going_stage (core_held d) r (takings.Begin props room)) (goes_nowhere d (Begin props room))

pub mode_stage : (d : Data) (room : ℕ) → stage_at (core_held d) (Mode room) false ≡ Idle
mode_stage d room = ap (λ (r : Option ℕ). going_stage (core_held d) r (takings.Mode room)) (goes_nowhere d (Mode room))

pub begin_ending : (d : Data) (props : Props) (room : ℕ) → ending_at (core_held d) (Begin props room) ≡ None
begin_ending d props room = cond_both (in_block d) _ _ (λ (o : Option Answer). o ≡ None) (λ o. ap (going_ending (core_held d)) (goes_nowhere d (Begin props room))) (λ o. refl)

pub mode_ending : (d : Data) (room : ℕ) → ending_at (core_held d) (Mode room) ≡ None
mode_ending d room = ap (going_ending (core_held d)) (goes_nowhere d (Mode room))

-- ## Refusals

module _ (d : Data) (call : Call) (why : Refusal) (h : IsHeld d) (refused : (m : List ℕ) → IsMemory d.words m → refusal d.frames.depth (kept d m) call ≡ Some why)
    (at : stage_at (core_held d) call false ≡ Idle) (none : ending_at (core_held d) call ≡ None) where
  pub refused_turn : HeldCallTurns d call (EndIrrevocable ends.Refused) (record (come d) { why = why })
  refused_turn = record {
    sound = record { bounds = h.bounds; is_open = h.is_open; log = h.log; writes = h.writes; settled = h.settled; free = h.free; tries = h.tries };
    proceeds = denied d call why refused h.is_open;
    comes = λ m mem. refuses d.frames.depth (kept d m) call why (refused m mem);
    stays = record { opens = λ o. o; log = λ o. refl; snapshot = refl };
    order = sym at;
    ends = subst (λ (so : Option Answer). TurnEndsSo so (EndIrrevocable ends.Refused) (record (come d) { why = why })) (sym none) tt;
  }

-- accesses
pub refused_access : (d : Data) (call : Call) (why : Refusal) (place size : ℕ) → IsHeld d → access_of call ≡ Some (place, size) → access_refusal (in_block d) d.words place size ≡ Some why
    → HeldCallTurns d call (EndIrrevocable ends.Refused) (record (come d) { why = why })
refused_access d call why place size h is e =
    refused_turn d call why h (λ m mem. access_kept d.frames.blocks d.arena d.frames.actions m d.frames.depth d.words mem call place size is ∙ e) (refused_stage (core_held d) place size why e call is) (access_ending (core_held d) call place size is)

pub refused_copy : (d : Data) (k : Copying) (why : Refusal) → IsHeld d → copy_refusal (in_block d) d.words (length d.arena) k ≡ Some why → HeldCallTurns d (Copy k) (EndIrrevocable ends.Refused) (record (come d) { why = why })
refused_copy d k why h e =
    refused_turn d (Copy k) why h (λ m mem. copy_kept d.frames.blocks d.arena d.frames.actions m d.frames.depth d.words mem k ∙ e) (cond-false (is_none (copy_refusal (in_block d) d.words (length d.arena) k)) _ _ (ap is_none e)) refl
