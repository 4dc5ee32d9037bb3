-- The plain machine takes no heed of the actions that have come to run.
use Rattle.std.proofs.Common.{◌≡◌, ◌∙◌, ℕ, Bool, true, false, List, [], ◌∷◌, ◌++◌, drop, map, reverse, Option, None, Some, ap, refl, if◌then◌else◌}
use Rattle.transactions.proofs.Common.{Abort, Action, Begin, Block, Call, Calls, Commit, Copy, CopyPair, Deed, Mode, Out, Overlap, Props, Ran, Refusal, Saved, State, TakesBack, UndoAction, after, after_unless, answer, as_commit, as_undo, back, back_from, calls_of, closed_actions, closed_in, closed_irrevocable, effect, entered, irrevocable_from, is_clear, is_open, made_irrevocable, opened, or_else, outside, pushed, refusal, replies, reply, reply_unless, rolled_back, source_bytes, source_range, standing, state_after, state_with, target_range, target_written, undone, undone_from, unless, with_action}
use Rattle.itm_types.specs.declared.call.ActionKind.TheVariants as kinds

-- with these instead
abbrev pub ran_as : List Ran → State → State
ran_as ran s = record s { actions = record s.actions { ran = ran } }

-- the states are the same but for them
abbrev pub IsSameBut : State → State → Type 0
IsSameBut s u = (ran : List Ran) × (u ≡ ran_as ran s)

module _ (s : State) (ran : List Ran) where
  abbrev u : State
  u = ran_as ran s

  -- ## Refusals and replies

  same_target : (pair : CopyPair) (place size : ℕ) → target_range u pair place size ≡ target_range s pair place size
  same_target (Out to) place size = refl
  same_target pair place size = refl

  same_source : (pair : CopyPair) (place size : ℕ) → source_range u pair place size ≡ source_range s pair place size
  same_source (Out to) place size = refl
  same_source pair place size = refl

  same_refusal : (d : ℕ) (call : Call) → refusal d u call ≡ refusal d s call
  same_refusal d (Copy c) = λ i. or_else (standing d s (Copy c)) (or_else (same_target c.pair c.to c.size i) (or_else (same_source c.pair c.from c.size i) (unless (is_clear c) Overlap)))
  same_refusal d call = refl

  same_answer : (call : Call) → answer u call ≡ answer s call
  same_answer (Begin props room) = refl
  same_answer call = refl

  same_reply : (d : ℕ) (call : Call) → reply d u call ≡ reply d s call
  same_reply d call = λ i. reply_unless (same_refusal d call i) (same_answer call i)

  -- ## Effects

  same_irrevocable : (b : Bool) → (if b then u else made_irrevocable u) ≡ ran_as ran (if b then s else made_irrevocable s)
  same_irrevocable true = refl
  same_irrevocable false = refl

-- a block opens
same_entered : (s : State) (ran : List Ran) (props : Props) → entered (ran_as ran s) props ≡ ran_as ran (entered s props)
same_entered s ran props = by_goes props.goes_irrevocable
  where
    by_goes : (b : Bool) → (if b then irrevocable_from (pushed (ran_as ran s) props) else pushed (ran_as ran s) props) ≡ ran_as ran (if b then irrevocable_from (pushed s props) else pushed s props)
    by_goes true = same_irrevocable (pushed s props) ran s.irrevocable
    by_goes false = refl

same_begun : (s : State) (ran : List Ran) (props : Props) (b : Bool) → IsSameBut (if b then entered s props else opened s.memory s.arena props) (if b then entered (ran_as ran s) props else opened s.memory s.arena props)
same_begun s ran props true = (ran, same_entered s ran props)
same_begun s ran props false = ([], same_entered (outside s.memory s.arena) [] props)

-- the innermost block closes
abbrev closed_with : List Block → State → State
closed_with bs s = record s { blocks = closed_in bs; actions = closed_actions bs s.actions; irrevocable = closed_irrevocable bs s.irrevocable }

same_closed : (s : State) (ran : List Ran) (bs : List Block) → IsSameBut (closed_with bs s) (closed_with bs (ran_as ran s))
same_closed s ran [] = (ran, refl)
same_closed s ran (b ∷ []) = (ran ++ map as_commit s.actions.commits, refl)
same_closed s ran (b ∷ p ∷ bs) = (ran, refl)

-- blocks are rolled back
same_back : (s : State) (ran : List Ran) (rest : List Block) (saved : Option Saved) → IsSameBut (rolled_back s rest saved) (rolled_back (ran_as ran s) rest saved)
same_back s ran rest None = (ran, refl)
same_back s ran rest (Some saved) = (ran ++ map as_undo (reverse (drop saved.undos s.actions.undos)), refl)

same_undone : (s : State) (ran : List Ran) (bs : List Block) → IsSameBut (undone_from s bs) (undone_from (ran_as ran s) bs)
same_undone s ran [] = (ran, refl)
same_undone s ran (b ∷ bs) =
    let one = same_back s ran bs b.saved in
    let rest = same_undone (rolled_back s bs b.saved) one.0 bs in
    (rest.0, ap (λ (t : State). undone_from t bs) one.1 ∙ rest.1)

same_innermost : (s : State) (ran : List Ran) (bs : List Block) → IsSameBut (back_from s bs) (back_from (ran_as ran s) bs)
same_innermost s ran [] = (ran, refl)
same_innermost s ran (b ∷ bs) = same_back s ran bs b.saved

same_aborted : (s : State) (ran : List Ran) (outer : Bool) → IsSameBut (if outer then undone s else back s) (if outer then undone (ran_as ran s) else back (ran_as ran s))
same_aborted s ran true = same_undone s ran s.blocks
same_aborted s ran false = same_innermost s ran s.blocks

same_copied : (s : State) (ran : List Ran) (pair : CopyPair) (from to size : ℕ) → target_written (ran_as ran s) pair to (source_bytes (ran_as ran s) pair from size) ≡ ran_as ran (target_written s pair to (source_bytes s pair from size))
same_copied s ran (Out place) from to size = refl
same_copied s ran pair from to size = refl

same_undo : (s : State) (ran : List Ran) (action : Action) (b : Bool) → (if b then ran_as ran s else with_action (ran_as ran s) kinds.Undo action) ≡ ran_as ran (if b then s else with_action s kinds.Undo action)
same_undo s ran action true = refl
same_undo s ran action false = refl

same_effect : (s : State) (ran : List Ran) (call : Call) → IsSameBut (effect s call) (effect (ran_as ran s) call)
same_effect s ran (Begin props room) = same_begun s ran props (is_open s)
same_effect s ran Commit = same_closed s ran s.blocks
same_effect s ran (Abort outer) = same_aborted s ran outer
same_effect s ran (Mode room) = (ran, same_irrevocable s ran s.irrevocable)
same_effect s ran (Copy c) = (ran, same_copied s ran c.pair c.from c.to c.size)
same_effect s ran (UndoAction action) = (ran, same_undo s ran action s.irrevocable)
same_effect s ran call = (ran, refl)

-- ## Calls

pub same_after : (d : ℕ) (s : State) (ran : List Ran) (call : Call) → IsSameBut (after d s call) (after d (ran_as ran s) call)
same_after d s ran call = by_refusal (refusal d s call) (same_refusal s ran d call)
  where
    by_refusal : (o : Option Refusal) → refusal d (ran_as ran s) call ≡ o → IsSameBut (after_unless o s (effect s call)) (after d (ran_as ran s) call)
    by_refusal None e = (let left = same_effect s ran call in (left.0, ap (λ (o : Option Refusal). after_unless o (ran_as ran s) (effect (ran_as ran s) call)) e ∙ left.1))
    by_refusal (Some why) e = (ran, ap (λ (o : Option Refusal). after_unless o (ran_as ran s) (effect (ran_as ran s) call)) e)

pub same_replies : (d : ℕ) (s : State) (ran : List Ran) (calls : List Call) → replies d (ran_as ran s) calls ≡ replies d s calls
same_replies d s ran [] = refl
same_replies d s ran (call ∷ calls) =
    let next = same_after d s ran call in
    λ i. same_reply s ran d call i ∷ (ap (λ (t : State). replies d t calls) next.1 ∙ same_replies d (after d s call) next.0 calls) i

-- what was taken back leaves nothing but the actions that came to run
pub same_left : (d : ℕ) (s : State) (ran : List Ran) (made : List Deed) → IsSameBut (state_after d s (calls_of made)) (state_with d (ran_as ran s) made)
same_left d s ran [] = (ran, refl)
same_left d s ran (Calls call r ∷ rest) =
    let next = same_after d s ran call in
    let on = same_left d (after d s call) next.0 rest in
    (on.0, ap (λ (t : State). state_with d t rest) next.1 ∙ on.1)
same_left d s ran (TakesBack gone ∷ rest) = same_left d s (ran ++ map as_undo gone) rest
