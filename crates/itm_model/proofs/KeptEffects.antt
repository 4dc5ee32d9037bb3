-- What holds of a state and is kept by each way to change it is kept by every call.
use Rattle.std.proofs.Common.{◌≡◌, ℕ, ◌+◌, ◌≤◌, ◌%◌, Bool, true, false, if◌then◌else◌, List, length, replicate, Option, None, Some, refl, arith}
use Rattle.itm_model.proofs.Common.{Abort, Action, Begin, Call, Commit, CommitAction, Copy, CopyPair, Fill, In, Log, LogBytes, Mode, Out, OutOfArena, OutOfRange, Props, Save, State, UndoAction, Within, Write, after, after_unless, back, closed, effect, entered, irrevocable_from, is_open, leb-true, length-replicate, logged, made_irrevocable, opened, or_else, pushed, ranges, refusal, saved_in_arena, source_bytes, source_range, standing, target_range, target_written, undone, unless, with_action, written}
use Rattle.itm_types.{specs.Access.size_of, specs.declared.call.ActionKind.ActionKind, specs.declared.call.Refusal.Refusal}
use Rattle.itm_types.specs.declared.call.ActionKind.TheVariants as kinds
use Rattle.itm_model.{specs.Places.in_range, proofs.Journals.Rollbacks.length-slice}

-- ## Ranges of accepted calls

first_none : (first later : Option Refusal) → or_else first later ≡ None → first ≡ None
first_none None later e = refl
first_none (Some refusal) later e = absurd (cc)

pub later_none : (first later : Option Refusal) → or_else first later ≡ None → later ≡ None
later_none None later e = e
later_none (Some refusal) later e = absurd (cc)

holds : (b : Bool) (refusal : Refusal) → unless b refusal ≡ None → b ≡ true
holds true refusal e = refl
holds false refusal e = absurd (cc)

pub within : (bytes : List ℕ) (at size : ℕ) (why : Refusal) → unless (in_range bytes at size) why ≡ None → at + size ≤ length bytes
within bytes at size why e = leb-true (at + size) (length bytes) (holds (in_range bytes at size) why e)

as_many : (all new : List ℕ) (at size : ℕ) (why : Refusal) → length new ≡ size → unless (in_range all at size) why ≡ None → at + length new ≤ length all
as_many all new at size why e r = omega (arith, within all at size why r, e)

-- ## Changes

pub either_kept : (P : State → Type 0) (b : Bool) (s t : State) → P s → P t → P (if b then s else t)
either_kept P true s t h k = h
either_kept P false s t h k = k

pub mode_kept : (P : State → Type 0) (s : State) → P s → P (made_irrevocable s) → P (irrevocable_from s)
mode_kept P s h k = either_kept P s.irrevocable s (made_irrevocable s) h k

pub entered_kept : (P : State → Type 0) (s : State) (props : Props) → P (pushed s props) → P (made_irrevocable (pushed s props)) → P (entered s props)
entered_kept P s props h k = either_kept P props.goes_irrevocable (irrevocable_from (pushed s props)) (pushed s props) (mode_kept P (pushed s props) h k) h

-- each way to change this state keeps it
pub record IsKept (P : State → Type 0) (s : State) : Type 0 where
  pub here : P s
  pub begins : (props : Props) → P (if is_open s then entered s props else opened s.memory s.arena props)
  pub closes : P (closed s)
  pub undoes : P (undone s)
  pub backs : P (back s)
  pub turns : P (made_irrevocable s)
  pub writes : (at : ℕ) (bytes : List ℕ) → at + length bytes ≤ length s.memory → P (written s at bytes)
  pub saves : (at : ℕ) (bytes : List ℕ) → at + length bytes ≤ length s.arena → P (saved_in_arena s at bytes)
  pub logs : (place size : ℕ) → P (logged s place size)
  pub acts : (kind : ActionKind) (action : Action) → P (with_action s kind action)

module _ (P : State → Type 0) (s : State) (k : IsKept P s) where
  copied_kept : (pair : CopyPair) (to from size : ℕ) → target_range s pair to size ≡ None → source_range s pair from size ≡ None → P (target_written s pair to (source_bytes s pair from size))
  copied_kept (Out side) to from size t r = k.writes to (source_bytes s (Out side) from size) (as_many s.memory _ to size OutOfRange (length-slice s.arena from size (within s.arena from size OutOfArena r)) t)
  copied_kept (In side) to from size t r = k.saves to (source_bytes s (In side) from size) (as_many s.arena _ to size OutOfArena (length-slice s.memory from size (within s.memory from size OutOfRange r)) t)
  copied_kept (Within one other) to from size t r =
      k.writes to (source_bytes s (Within one other) from size) (as_many s.memory _ to size OutOfRange (length-slice s.memory from size (within s.memory from size OutOfRange r)) t)

  effect_kept : (c : Call) → ranges s c ≡ None → P (effect s c)
  effect_kept (Begin props room) e = k.begins props
  effect_kept Commit e = k.closes
  effect_kept (Abort outer) e = either_kept P outer (undone s) (back s) k.undoes k.backs
  effect_kept (Mode room) e = mode_kept P s k.here k.turns
  effect_kept (Write hint at value) e = k.writes at value.bytes.items (as_many s.memory value.bytes.items at (size_of value.width) OutOfRange value.sized e)
  effect_kept (Log width at) e = k.logs at (size_of width)
  effect_kept (LogBytes at size) e = k.logs at size
  effect_kept (Copy c) e =
      copied_kept c.pair c.to c.from c.size (first_none _ _ e) (first_none _ _ (later_none (target_range s c.pair c.to c.size) _ e))
  effect_kept (Fill hint to byte size) e = k.writes to (replicate size (byte % 256)) (as_many s.memory _ to size OutOfRange (length-replicate size (byte % 256)) e)
  effect_kept (CommitAction action) e = k.acts kinds.Commit action
  effect_kept (UndoAction action) e = either_kept P s.irrevocable s (with_action s kinds.Undo action) k.here (k.acts kinds.Undo action)
  effect_kept (Save at value) e = k.saves at value.bytes.items (as_many s.arena value.bytes.items at (size_of value.width) OutOfArena value.sized e)
  effect_kept c e = k.here

  pub after_kept : (deepest : ℕ) (c : Call) → P (after deepest s c)
  after_kept deepest c = by_refusal (refusal deepest s c) refl
    where
      by_refusal : (o : Option Refusal) → refusal deepest s c ≡ o → P (after_unless o s (effect s c))
      by_refusal None e = effect_kept c (later_none (standing deepest s c) (ranges s c) e)
      by_refusal (Some why) e = k.here
