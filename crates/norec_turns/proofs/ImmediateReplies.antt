-- Calls that are answered with no step.
use Rattle.std.proofs.Common.{◌≡◌, ℕ, ◌+◌, ◌*◌, ◌<◌, ◌≤◌, ◌&&◌, nat_le, Bool, true, false, length, Option, None, Some, refl, sym, ap, subst, if◌then◌else◌}
use Rattle.norec_turns.proofs.Common.{Action, ActionKind, Call, CommitAction, Data, End, Fill, Idle, IsSound, IsSoundTurn, Log, LogBytes, MayStarve, Refusal, Refused, Replies, Stays, TurnEndsSo, Turns, UndoAction, access_of, access_refusal, came, core, in_block, logged_of, registered_by, size_of, stage_at}
use Rattle.norec_core.{specs.declared.answer.Answer.Answer, specs.Endings.ending_at}
use Rattle.norec_data.{specs.declared.end.CallEnd.CallEnd, proofs.RefusedAccesses.access_ending, proofs.RefusedAccesses.refused_stage}
use Rattle.norec_turns.{specs.Moves.CallTurns, specs.Moves.CallStarves, proofs.Cancels.come, proofs.LocalReplies.come_sound, proofs.Refusals.refused_replies}
use Rattle.itm_types.specs.declared.access.WriteHint.{WriteHint}
use Rattle.itm_types.specs.declared.call.ActionKind.TheVariants as kinds
use Rattle.norec_data.specs.declared.end.CallEnd.TheVariants as ends

-- a call of which no step is asked, and which does not end the transaction
pub record IsAtOnce (s : Data) (call : Call) : Type 0 where
  pub stage : stage_at (core s Idle) call false ≡ Idle
  pub none : ending_at (core s Idle) call ≡ None

pub answered : (s : Data) (call : Call) (end : CallEnd) (d : Data) → IsAtOnce s call → IsSoundTurn (End end) d → Turns (came (core s Idle) call false) (End end) d → Stays s d
    → TurnEndsSo None (End end) d → CallTurns s call false (End end) d
answered s call end d at sound proceeds stays ends = record {
  sound = sound;
  proceeds = proceeds;
  stays = stays;
  order = sym at.stage;
  ends = subst (λ (so : Option Answer). TurnEndsSo so (End end) d) (sym at.none) ends;
  tries = refl;
}

-- it is refused, and the fields are as they were but for the counts
pub refused_as_it_was : (s : Data) (call : Call) (why : Refusal) → IsAtOnce s call → IsSound s Idle → Replies (came (core s Idle) call false) call (Refused why) (core (come s) Idle)
    → CallTurns s call false (End ends.Refused) (record (come s) { why = why })
refused_as_it_was s call why at sound replies =
    answered s call ends.Refused (record (come s) { why = why }) at (record { asked = tt; sound = come_sound s why sound }) replies (record { opens = λ o. o; log = λ o. refl; snapshot = refl }) tt

-- no memory was found, and the fields are as they were
pub starved : (s : Data) (call : Call) (d : Data) → IsSound s Idle → d ≡ s → MayStarve (core s Idle) call → CallStarves s call d
starved s call d sound same may = record { sound = subst (λ (x : Data). IsSound x Idle) (sym same) sound; same = ap (λ (x : Data). core x Idle) same; starves = may }

-- ## Refusals

pub refused_turn : (s : Data) (call : Call) (place size : ℕ) (why : Refusal) → IsSound s Idle → access_of call ≡ Some (place, size) → access_refusal (in_block s) s.words place size ≡ Some why
    → CallTurns s call false (End ends.Refused) (record (come s) { why = why })
refused_turn s call place size why sound is e =
    refused_as_it_was s call why (record { stage = refused_stage (core s Idle) place size why e call is; none = access_ending (core s Idle) call place size is }) sound (refused_replies s call place size why sound is e)

-- ## Fills

either : (b : Bool) → (if b then Idle else Idle) ≡ Idle
either true = refl
either false = refl

pub filled_at_once : (s : Data) (hint : WriteHint) (to byte size : ℕ) → IsAtOnce s (Fill hint to byte size)
filled_at_once s hint to byte size = record { stage = either (in_block s && nat_le (to + size) (8 * s.words)); none = refl }

-- ## Logs of the arena

pub logged_at_once : (s : Data) (call : Call) (place size : ℕ) → logged_of call ≡ Some (place, size) → IsAtOnce s call
logged_at_once s (Log width at) place size is = record { stage = refl; none = refl }
logged_at_once s (LogBytes at bytes) place size is = record { stage = refl; none = refl }
logged_at_once s call place size is = absurd (cc)

pub logged_starves : (s : Data) (call : Call) (place size : ℕ) → logged_of call ≡ Some (place, size) → in_block s ≡ true → place + size ≤ length s.arena → 0 < size → MayStarve (core s Idle) call
logged_starves s (Log width at) place size is o within some =
    let same : ◌≡◌ {A = ℕ × ℕ} (at, size_of width) (place, size) = cc in
    (o, subst (λ (x : ℕ × ℕ). x.0 + x.1 ≤ length s.arena) (sym same) within)
logged_starves s (LogBytes at bytes) place size is o within some =
    let same : ◌≡◌ {A = ℕ × ℕ} (at, bytes) (place, size) = cc in
    (o, subst (λ (x : ℕ × ℕ). x.0 + x.1 ≤ length s.arena) (sym same) within, subst (λ (x : ℕ × ℕ). 0 < x.1) (sym same) some)
logged_starves s call place size is o within some = absurd (cc)

-- ## Registrations

pub registered_at_once : (s : Data) (call : Call) (kind : ActionKind) (action : Action) → registered_by call ≡ Some (kind, action) → IsAtOnce s call
registered_at_once s (CommitAction a) kind action is = record { stage = refl; none = refl }
registered_at_once s (UndoAction a) kind action is = record { stage = refl; none = refl }
registered_at_once s call kind action is = absurd (cc)

pub registered_starves : (s : Data) (call : Call) (kind : ActionKind) (action : Action) → registered_by call ≡ Some (kind, action) → in_block s ≡ true → (kind ≡ kinds.Commit → s.frames.room ≡ 0) → MayStarve (core s Idle) call
registered_starves s (CommitAction a) kind action is o full =
    let same : (kinds.Commit, a) ≡ (kind, action) = cc in
    (o, full (sym (ap (λ (x : ActionKind × Action). x.0) same)))
registered_starves s (UndoAction a) kind action is o full = o
registered_starves s call kind action is o full = absurd (cc)
