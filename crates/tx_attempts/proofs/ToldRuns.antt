-- What has run decides nothing: a run in which it is told otherwise has the same replies, and all else of its states.
use Rattle.std.proofs.Common.{◌≡◌, ℕ, suc, Bool, true, false, List, [], ◌∷◌, ◌++◌, map, Option, None, Some, refl, sym, ap, subst, ◌∙◌, append-nil, append_assoc, if◌then◌else◌, drop, reverse}
use Rattle.tx_attempts.proofs.Common.{Abort, Again, Begin, Block, Breaks, Call, CallRecord, Commit, Copy, IsAlone, Mode, Props, Ran, Refusal, Rules, Saved, State, UndoAction, after, after_unless, again_at, answer, arena_set, back_from, breaks_in, breaks_of, closed_actions, closed_in, closed_irrevocable, effect, is_clear, is_open, later, made_irrevocable, opened, or_else, outside, pushed, refusal, reply, reply_unless, rolled_back, run_on, source_bytes, source_range, standing, state_then, target_range, target_written, undone, undone_from, unless, with_action}
use Rattle.tx_attempts.proofs.AloneCalls.{open_asked}
use Rattle.itm_types.specs.declared.copy.CopyPair.{CopyPair}
use Rattle.itm_types.specs.declared.copy.CopyPair.TheVariants.{Out, In, Within}
use Rattle.user_actions.specs.Actions.{as_commit, as_undo}
use Rattle.itm_types.specs.declared.call.ActionKind.TheVariants as kinds
use Rattle.itm_types.specs.declared.call.Refusal.TheVariants.{Overlap}

-- the state with this told as run
abbrev pub telling : State → List Ran → State
telling s ran = record s { actions = record s.actions { ran = ran } }

-- ## One call

-- with this told as run before it, what it leaves is the same, and the actions that it runs come behind
abbrev pub Adds : (State → State) → State → Type 0
Adds f s = (more : List Ran) × ((ran : List Ran) → f (telling s ran) ≡ telling (f s) (ran ++ more))

none_added : (f : State → State) (s : State) → ((ran : List Ran) → f (telling s ran) ≡ telling (f s) ran) → Adds f s
none_added f s h = ([], λ ran. h ran ∙ ap (telling (f s)) (sym (append-nil ran)))

adds_rolled : (rest : List Block) (saved : Option Saved) (s : State) → Adds (λ t. rolled_back t rest saved) s
adds_rolled rest None s = none_added (λ t. t) s (λ ran. refl)
adds_rolled rest (Some saved) s = (map as_undo (reverse (drop saved.undos s.actions.undos)), λ ran. refl)

adds_undone : (blocks : List Block) (s : State) → Adds (λ t. undone_from t blocks) s
adds_undone [] s = none_added (λ t. t) s (λ ran. refl)
adds_undone (b ∷ bs) s =
    let first = adds_rolled bs b.saved s in
    let rest = adds_undone bs (rolled_back s bs b.saved) in
    (first.0 ++ rest.0, λ ran. ap (λ (t : State). undone_from t bs) (first.1 ran) ∙ (rest.1 (ran ++ first.0) ∙ ap (telling (undone_from (rolled_back s bs b.saved) bs)) (append_assoc ran first.0 rest.0)))

-- every open block is rolled back
pub adds_given_up : (s : State) → Adds undone s
adds_given_up s = (let f = adds_undone s.blocks s in (f.0, λ ran. f.1 ran))

adds_back : (blocks : List Block) (s : State) → Adds (λ t. back_from t blocks) s
adds_back [] s = none_added (λ t. t) s (λ ran. refl)
adds_back (b ∷ bs) s = adds_rolled bs b.saved s

adds_either : (b : Bool) (f g : State → State) (s : State) → Adds f s → Adds g s → Adds (λ t. if b then f t else g t) s
adds_either true f g s one other = one
adds_either false f g s one other = other

adds_closed : (blocks : List Block) (s : State) → Adds (λ t. record t { blocks = closed_in blocks; actions = closed_actions blocks t.actions; irrevocable = closed_irrevocable blocks t.irrevocable }) s
adds_closed [] s = none_added (λ t. record t { blocks = [] }) s (λ ran. refl)
adds_closed (b ∷ []) s = (map as_commit s.actions.commits, λ ran. refl)
adds_closed (b ∷ p ∷ bs) s = none_added (λ t. record t { blocks = closed_in (b ∷ p ∷ bs) }) s (λ ran. refl)

adds_entered : (is : Bool) (props : Props) (s : State) → Adds (λ t. if props.goes_irrevocable then (if is then pushed t props else made_irrevocable (pushed t props)) else pushed t props) s
adds_entered is props s =
    let plain = none_added (λ t. pushed t props) s (λ ran. refl) in
    adds_either props.goes_irrevocable (λ t. if is then pushed t props else made_irrevocable (pushed t props)) (λ t. pushed t props) s
    (adds_either is (λ t. pushed t props) (λ t. made_irrevocable (pushed t props)) s plain (none_added (λ t. made_irrevocable (pushed t props)) s (λ ran. refl))) plain

adds_written : (pair : CopyPair) (to : ℕ) (bytes : List ℕ) (s : State) → Adds (λ t. target_written t pair to bytes) s
adds_written (Out side) to bytes s = none_added (λ t. target_written t (Out side) to bytes) s (λ ran. refl)
adds_written (In side) to bytes s = none_added (λ t. target_written t (In side) to bytes) s (λ ran. refl)
adds_written (Within a b) to bytes s = none_added (λ t. target_written t (Within a b) to bytes) s (λ ran. refl)

source_told : (pair : CopyPair) (from size : ℕ) (s : State) (ran : List Ran) → source_bytes (telling s ran) pair from size ≡ source_bytes s pair from size
source_told (Out side) from size s ran = refl
source_told (In side) from size s ran = refl
source_told (Within a b) from size s ran = refl

adds_effect : (call : Call) (s : State) → is_open s ≡ true → Adds (λ t. effect t call) s
adds_effect (Begin props room) s o =
    let f = subst (λ (b : Bool). Adds (λ t. if b then (if props.goes_irrevocable then (if s.irrevocable then pushed t props else made_irrevocable (pushed t props)) else pushed t props) else opened t.memory t.arena props) s) (sym o) (adds_entered s.irrevocable props s) in
    (f.0, λ ran. f.1 ran)
adds_effect Commit s o = (let f = adds_closed s.blocks s in (f.0, λ ran. f.1 ran))
adds_effect (Abort outer) s o = (let f = adds_either outer (λ t. undone_from t s.blocks) (λ t. back_from t s.blocks) s (adds_undone s.blocks s) (adds_back s.blocks s) in (f.0, λ ran. f.1 ran))
adds_effect (Mode room) s o = (let f = adds_either s.irrevocable (λ t. t) made_irrevocable s (none_added (λ t. t) s (λ ran. refl)) (none_added made_irrevocable s (λ ran. refl)) in (f.0, λ ran. f.1 ran))
adds_effect (Copy c) s o = (let f = adds_written c.pair c.to (source_bytes s c.pair c.from c.size) s in (f.0, λ ran. ap (λ (bytes : List ℕ). target_written (telling s ran) c.pair c.to bytes) (source_told c.pair c.from c.size s ran) ∙ f.1 ran))
adds_effect (UndoAction action) s o = (let f = adds_either s.irrevocable (λ t. t) (λ t. with_action t kinds.Undo action) s (none_added (λ t. t) s (λ ran. refl)) (none_added (λ t. with_action t kinds.Undo action) s (λ ran. refl)) in (f.0, λ ran. f.1 ran))
adds_effect call s o = none_added (λ t. effect t call) s (λ ran. refl)

-- why it is refused does not hang on it
range_told : (pair : CopyPair) (to from size : ℕ) (last : Option Refusal) (s : State) (ran : List Ran)
    → or_else (target_range (telling s ran) pair to size) (or_else (source_range (telling s ran) pair from size) last) ≡ or_else (target_range s pair to size) (or_else (source_range s pair from size) last)
range_told (Out side) to from size last s ran = refl
range_told (In side) to from size last s ran = refl
range_told (Within a b) to from size last s ran = refl

refusal_told : (deepest : ℕ) (call : Call) (s : State) (ran : List Ran) → refusal deepest (telling s ran) call ≡ refusal deepest s call
refusal_told deepest (Copy c) s ran = ap (or_else (standing deepest s (Copy c))) (range_told c.pair c.to c.from c.size (unless (is_clear c) Overlap) s ran)
refusal_told deepest call s ran = refl

adds_unless : (o : Option Refusal) (call : Call) (s : State) → is_open s ≡ true → Adds (λ t. after_unless o t (effect t call)) s
adds_unless None call s open_now = adds_effect call s open_now
adds_unless (Some why) call s open_now = none_added (λ t. t) s (λ ran. refl)

pub adds_after : (deepest : ℕ) (call : Call) (s : State) → is_open s ≡ true → Adds (λ t. after deepest t call) s
adds_after deepest call s o = (let f = adds_unless (refusal deepest s call) call s o in (f.0, λ ran. ap (λ (why : Option Refusal). after_unless why (telling s ran) (effect (telling s ran) call)) (refusal_told deepest call s ran) ∙ f.1 ran))

answer_told : (call : Call) (s : State) (ran : List Ran) → answer (telling s ran) call ≡ answer s call
answer_told (Begin props room) s ran = refl
answer_told call s ran = refl

pub reply_told : (deepest : ℕ) (call : Call) (s : State) (ran : List Ran) → reply deepest (telling s ran) call ≡ reply deepest s call
reply_told deepest call s ran = (let why = refusal_told deepest call s ran in let told = answer_told call s ran in λ i. reply_unless (why i) (told i))

-- ## Runs

-- a break that is told of a run, and the same as it was for the engine
break_told : (o : Option Again) (s : State) (ran : List Ran) → arena_set o (telling s ran) ≡ telling (run_on o s) ran
break_told None s ran = refl
break_told (Some a) s ran = refl

-- the first breaks do to a state, whatever it tells as run, what the second ones do, and leave that
abbrev pub Match : Breaks → Breaks → Type 0
Match b c = (n : ℕ) (s : State) (ran : List Ran) → b n (telling s ran) ≡ telling (c n s) ran

later_match : (b c : Breaks) → Match b c → Match (later b) (later c)
later_match b c h n s ran = h (suc n) s ran

pub records_match : (rs : List Again) → Match (breaks_of rs) (breaks_in rs)
records_match rs n s ran = break_told (again_at rs n) s ran

module _ {P : Type 0} (rules : Rules P) (deepest : ℕ) where
  -- calls that are made alone are so where what has run is told otherwise
  pub alone_told : (b c : Breaks) → Match b c → (p : P) (s : State) (ran : List Ran) (xs : List CallRecord) → IsAlone rules deepest c p s xs → IsAlone rules deepest b p (telling s ran) xs
  alone_told b c h p s ran [] a = tt
  alone_told b c h p s ran (x ∷ xs) a =
      let f = adds_after deepest x.call s (open_asked (is_open s) (rules.next_call p) x.call a.0) in (
        a.0,
        a.1 ∙ sym (reply_told deepest x.call s ran),
        subst (λ (t : State). IsAlone rules deepest (later b) (rules.answered p x.reply) t xs) (sym (ap (b 1) (f.1 ran) ∙ h 1 (after deepest s x.call) (ran ++ f.0)))
            (alone_told (later b) (later c) (later_match b c h) (rules.answered p x.reply) (c 1 (after deepest s x.call)) (ran ++ f.0) xs a.2),
      )

  -- and lead to the same, but for that
  pub state_told : (b c : Breaks) → Match b c → (p : P) (s : State) (ran : List Ran) (xs : List CallRecord) → IsAlone rules deepest c p s xs
      → (told : List Ran) × (state_then deepest b (telling s ran) xs ≡ telling (state_then deepest c s xs) told)
  state_told b c h p s ran [] a = (ran, refl)
  state_told b c h p s ran (x ∷ xs) a =
      let f = adds_after deepest x.call s (open_asked (is_open s) (rules.next_call p) x.call a.0) in
      let rest = state_told (later b) (later c) (later_match b c h) (rules.answered p x.reply) (c 1 (after deepest s x.call)) (ran ++ f.0) xs a.2 in
      (rest.0, ap (λ (t : State). state_then deepest (later b) t xs) (ap (b 1) (f.1 ran) ∙ h 1 (after deepest s x.call) (ran ++ f.0)) ∙ rest.1)

-- a transaction begins with nothing told
opened_by : (goes : Bool) (props : Props) (s : State) → s.irrevocable ≡ false → s.actions.ran ≡ [] → telling (if goes then (if s.irrevocable then pushed s props else made_irrevocable (pushed s props)) else pushed s props) [] ≡ (if goes then (if s.irrevocable then pushed s props else made_irrevocable (pushed s props)) else pushed s props)
opened_by true props s i e = rw i (λ k. made_irrevocable (record (pushed s props) { actions = record s.actions { ran = none k } }))
  where
    none : [] ≡ s.actions.ran
    none = sym e
opened_by false props s i e = (let none = sym e in λ k. record (pushed s props) { actions = record s.actions { ran = none k } })

pub opened_told : (memory arena : List ℕ) (props : Props) → telling (opened memory arena props) [] ≡ opened memory arena props
opened_told memory arena props = opened_by props.goes_irrevocable props (outside memory arena) refl refl

-- calls that are made alone as it was for the engine are so as it is told, and lead to the same but for that
module _ {P : Type 0} (rules : Rules P) (deepest : ℕ) (rs : List Again) (p : P) (memory arena : List ℕ) (props : Props) (xs : List CallRecord) (h : IsAlone rules deepest (breaks_in rs) p (opened memory arena props) xs) where
  pub told_alone : IsAlone rules deepest (breaks_of rs) p (opened memory arena props) xs
  told_alone = subst (λ (s : State). IsAlone rules deepest (breaks_of rs) p s xs) (opened_told memory arena props) (alone_told rules deepest (breaks_of rs) (breaks_in rs) (records_match rs) p (opened memory arena props) [] xs h)

  pub told_state : (told : List Ran) × (state_then deepest (breaks_of rs) (opened memory arena props) xs ≡ telling (state_then deepest (breaks_in rs) (opened memory arena props) xs) told)
  told_state =
      let t = state_told rules deepest (breaks_of rs) (breaks_in rs) (records_match rs) p (opened memory arena props) [] xs h in
      (t.0, ap (λ (s : State). state_then deepest (breaks_of rs) s xs) (sym (opened_told memory arena props)) ∙ t.1)
