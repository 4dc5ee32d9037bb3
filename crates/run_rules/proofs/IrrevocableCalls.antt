-- Calls that make a transaction irrevocable, and what a reply leaves of the room of one that is.
use Rattle.std.proofs.Common.{true≢false, is_some, subst, ◌≡◌, ℕ, ◌+◌, ◌-◌, ◌<◌, ◌≤◌, ◌&&◌, not, nat_lt, Bool, true, false, List, replicate, if◌then◌else◌, length, Option, None, Some, IsSome, refl, sym, ap, ◌∙◌, inl, inr, arith}
use Rattle.run_rules.proofs.Common.{Abort, Agrees, Answer, Begin, Call, Code, CommitAction, Conflict, ConflictsIn, Core, Done, Ends, IsIrrevocable, IsMemory, IsSettled, MayStarveHeld, Mode, NoAbort, Outside, Props, Refusal, Refused, Replied, Replies, RepliesHeld, Reply, State, UndoAction, accepted as begin_served, actions_after, after, after_unless, cond-true, effect, entered, false_from_ne_true, in_transaction, irrevocable_from, irrevocable_room, is_abort, is_open, keeps_any, keeps_innermost, ltb-true, made_irrevocable, may_go, mode_enters, not-true, opened, or_else, outside, pushed, refusal, registered, registers, reply_cases, reply_unless, room_left, stands_for, state_in, state_over, stays_revocable, total, unless}
use Rattle.itm_types.specs.declared.call.ActionKind.TheVariants as kinds

-- ## A call that makes it so

pub goes_same : (c d : Core) (call : Call) → c.depth ≡ d.depth → c.blocks ≡ d.blocks → c.irrevocable ≡ d.irrevocable → irrevocable_room c call ≡ irrevocable_room d call
goes_same c d (Begin props room) deep b h = λ i. irrevocable_room (record c { depth = deep i; blocks = b i; irrevocable = h i }) (Begin props room)
goes_same c d (Mode room) deep b h = λ i. irrevocable_room (record c { blocks = b i; irrevocable = h i }) (Mode room)
goes_same c d call deep b h = refl

three_off : (a b c : Bool) (room : ℕ) → (if a && b && c && false then Some room else None) ≡ None
three_off true true true room = refl
three_off a b c room = refl

-- an irrevocable transaction does not become so
pub asks_no_room : (c : Core) (call : Call) → c.irrevocable ≡ true → irrevocable_room c call ≡ None
asks_no_room c (Begin props room) h =
    (λ i. if props.goes_irrevocable && may_go c.blocks props && nat_lt (length c.blocks) c.depth && not (h i) then Some room else None) ∙ three_off props.goes_irrevocable (may_go c.blocks props) (nat_lt (length c.blocks) c.depth) room
asks_no_room c (Mode room) h = (λ i. if in_transaction c && not (stays_revocable c.blocks) && not (h i) then Some room else None) ∙ three_off true (in_transaction c) (not (stays_revocable c.blocks)) room
asks_no_room c call h = refl

-- what it needs
pub goes_with : (goes may few free : Bool) (room : ℕ) → is_some (if goes && may && few && free then Some room else None) ≡ true → (goes ≡ true) × (may ≡ true) × (few ≡ true)
goes_with true true true free room w = (refl, refl, refl)
goes_with goes may few free room w = absurd (cc)

pub from_irrevocable : (s : State) → (irrevocable_from s).irrevocable ≡ true
from_irrevocable s = (elim s.irrevocable as (λ (b : Bool). s.irrevocable ≡ b → (if b then s else made_irrevocable s).irrevocable ≡ true) [ true ↦ λ e. e | false ↦ λ e. refl ]) refl

begun_irrevocable : (s : State) (props : Props) (room : ℕ) → props.goes_irrevocable ≡ true → (effect s (Begin props room)).irrevocable ≡ true
begun_irrevocable s props room goes = elim (is_open s) as (λ (b : Bool). (if b then entered s props else opened s.memory s.arena props).irrevocable ≡ true) [ true ↦ so s | false ↦ so (outside s.memory s.arena) ]
  where
    so : (t : State) → (entered t props).irrevocable ≡ true
    so t = ap (λ (x : State). x.irrevocable) (cond-true props.goes_irrevocable (irrevocable_from (pushed t props)) (pushed t props) goes) ∙ from_irrevocable (pushed t props)

module _ (mid : Core) (m : List ℕ) where
  pub makes_irrevocable : (call : Call) → is_some (irrevocable_room mid call) ≡ true → (after mid.depth (state_over mid.writes mid.blocks mid.arena mid.actions m) call).irrevocable ≡ true
  makes_irrevocable (Mode room) w =
      let two = goes_with true (in_transaction mid) (not (stays_revocable mid.blocks)) (not mid.irrevocable) room w in
      ap (λ (s : State). s.irrevocable) (sym (mode_enters mid.depth mid.writes mid.blocks mid.arena mid.actions m room two.1 (not-true (stays_revocable mid.blocks) two.2)).0)
  makes_irrevocable (Begin props room) w =
      let may = goes_with props.goes_irrevocable (may_go mid.blocks props) (nat_lt (length mid.blocks) mid.depth) (not mid.irrevocable) room w in
      let s : State = state_over mid.writes mid.blocks mid.arena mid.actions m in
      let none : refusal mid.depth s (Begin props room) ≡ None = begin_served mid.depth mid.writes mid.blocks mid.arena mid.actions m props room may.1 (ltb-true (length mid.blocks) mid.depth may.2) in
      ap (λ (why : Option Refusal). (after_unless why s (effect s (Begin props room))).irrevocable) none ∙ begun_irrevocable s props room may.0
  makes_irrevocable call w = absurd (let f : false ≡ true = w in cc)

-- so no such call is answered in one that is not
pub plain_goes : (mid new : Core) (call : Call) (r : Reply) → Replies mid call r new → IsSettled new → is_some (irrevocable_room mid call) ≡ false
plain_goes mid new call r g settled = false_from_ne_true (is_some (irrevocable_room mid call)) (λ goes. absurd (true≢false (sym (makes_irrevocable mid m.0 call goes) ∙ (ap (λ (s : State). s.irrevocable) (sym over) ∙ (ap (λ (b : Bool). (state_in b new.writes new.blocks new.arena new.actions m.0).irrevocable) (ap (λ (c : Core). c.irrevocable) g.stays ∙ g.revocable))))))
  where
    m : (words : List ℕ) × IsMemory new.words words × Agrees words new.log
    m = settled.agreed

    over : stands_for new m.0 ≡ after mid.depth (state_over mid.writes mid.blocks mid.arena mid.actions m.0) call
    over =
        g.meets m.0 (subst (λ (n : ℕ). IsMemory n m.0) (ap (λ (c : Core). c.words) g.stays) m.1) m.2
        ∙ ap (λ (b : Bool). after mid.depth (state_in b mid.writes mid.blocks mid.arena mid.actions m.0) call) g.revocable

pub goes_no_cancel : (c : Core) (call : Call) → IsSome (irrevocable_room c call) → is_abort call ≡ false
goes_no_cancel c (Abort outer) s = absurd (cc)
goes_no_cancel c call s = refl

pub goes_no_action : (c : Core) (call : Call) → IsSome (irrevocable_room c call) → registers call ≡ 0
goes_no_action c (CommitAction action) s = absurd (cc)
goes_no_action c (UndoAction action) s = absurd (cc)
goes_no_action c call s = refl

-- ## An answer

-- no call is in progress after it
pub answered_idle : (mid new : Core) (call : Call) (a : Answer) → mid.doing ≡ Some call → Ends mid a new → new.doing ≡ None
answered_idle mid new call (Replied r) doing g = elim (reply_cases mid new call r doing g) [
  | inl w ↦ ap (λ (c : Core). c.doing) w.stays
  | inr (inl w) ↦ ap (λ (c : Core). c.doing) w.stays
  | inr (inr w) ↦ ap (λ (c : Core). c.doing) w.stays
]
answered_idle mid new call (Conflict clock word) doing g = (elim (in_transaction mid) as (λ (inside : Bool). ConflictsIn inside mid clock word new → new.doing ≡ None) [ true ↦ λ w. ap (λ (c : Core). c.doing) w.stays | false ↦ λ w. ap (λ (c : Core). c.doing) w.stays ]) g
answered_idle mid new call a doing g = ap (λ (c : Core). c.doing) g.stays

-- a cancel is refused in an irrevocable transaction
cancel_refused : (inside may : Bool) → (why : Refusal) × (or_else (or_else (unless inside Outside) (or_else (unless may NoAbort) (unless false IsIrrevocable))) None ≡ Some why)
cancel_refused true true = (IsIrrevocable, refl)
cancel_refused true false = (NoAbort, refl)
cancel_refused false may = (Outside, refl)

abort_refused : (deepest : ℕ) (s : State) (outer : Bool) → s.irrevocable ≡ true → (why : Refusal) × (refusal deepest s (Abort outer) ≡ Some why)
abort_refused deepest s outer h =
    let may = not (if outer then keeps_any s.blocks else keeps_innermost s.blocks) in
    let x = cancel_refused (is_open s) may in
    (x.0, (λ i. or_else (or_else (unless (is_open s) Outside) (or_else (unless may NoAbort) (unless (not (h i)) IsIrrevocable))) None) ∙ x.1)

-- so it runs nothing
pub abort_runs : (mid new : Core) (outer : Bool) (r : Reply) → RepliesHeld mid (Abort outer) r new → new.actions.ran ≡ mid.actions.ran
abort_runs mid new outer r g =
    let s = stands_for mid (replicate mid.words 0) in
    let held : s.irrevocable ≡ true = ap (λ (b : Bool). (state_in b mid.writes mid.blocks mid.arena mid.actions (replicate mid.words 0)).irrevocable) g.irrevocable in
    let x = abort_refused mid.depth s outer held in
    let is : r ≡ Refused x.0 = g.reply_is ∙ ap (λ (o : Option Refusal). reply_unless o (Code 24)) x.1 in
    ap (λ (c : Core). c.actions.ran) g.stays ∙ ap (λ (y : Reply). (actions_after mid (Abort outer) y).ran) is

-- ## Its room

-- a reply leaves all of it, or a place less
pub left_most : (c : Core) (call : Call) (r : Reply) → room_left c call r ≤ c.room
left_most c (CommitAction action) Done = omega arith
left_most c call r = omega arith

pub left_least : (c : Core) (call : Call) (r : Reply) → c.room - 1 ≤ room_left c call r
left_least c (CommitAction action) Done = omega arith
left_least c call r = omega arith

-- and with the actions that are registered it is no more than before
pub room_by_call : (mid new : Core) (call : Call) (r : Reply) → mid.irrevocable ≡ true → new.actions ≡ actions_after mid call r → new.room ≡ room_left mid call r → total new.actions ≤ total mid.actions + registers call → 0 < new.room
    → (0 < mid.room) × (total new.actions + new.room ≤ total mid.actions + mid.room)
room_by_call mid new (CommitAction action) Done h acts room most some = (omega arith, omega arith)
room_by_call mid new (CommitAction action) r h acts room most some = (let same = ap total acts in (omega arith, omega arith))
room_by_call mid new (UndoAction action) Done h acts room most some =
    (let same : total new.actions ≡ total mid.actions = ap total acts ∙ ap (λ (b : Bool). total (if b then mid.actions else registered kinds.Undo action mid.actions)) h in
    (omega arith, omega arith))
room_by_call mid new (UndoAction action) r h acts room most some = (let same = ap total acts in (omega arith, omega arith))
room_by_call mid new call r h acts room most some = (omega arith, omega arith)

-- a call of it wants memory for a commit action beyond the room alone
pub starves_used : (e : Core) (call : Call) → MayStarveHeld e call → e.room ≡ 0
starves_used e (CommitAction action) none = none
starves_used e call none = absurd none
