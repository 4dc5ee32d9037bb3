-- A begin that comes to an engine outside a transaction, and other calls there.
use Rattle.std.proofs.Common.{◌≡◌, ℕ, ◌<◌, not, nat_lt, Bool, true, false, true≢false, List, [], length, Option, None, Some, IsSome, is_some, refl, sym, ap, ◌∙◌, inl, inr, subst}
use Rattle.run_rules.proofs.Common.{Actions, Agrees, Begin, Call, Code, Core, Ends, IsBegin, IsMemory, IsSettled, Load, NoIrrevocable, Props, Refusal, Replied, Replies, Reply, Row, Save, State, TooDeep, accepted, after, answer, begin_code, blocks_after, in_arena, in_transaction, inside_all, irrevocable_room, is_begin, is_inside, may_go, no_actions, none_inside, or_else, outside, recoded, refusal, reply, reply_cases, reply_unless, size_of, stands_for, state_in, state_over, stays_outside, unless}
use Rattle.tx_runs.proofs.Begins.{opened_arena, same_arena}
use Rattle.run_rules.proofs.IrrevocableCalls.{goes_with}

-- an engine outside a transaction
abbrev pub outside_of : Core → List ℕ → State
outside_of mid m = state_over mid.writes [] mid.arena mid.actions m

pub stands_outside : (mid : Core) → in_transaction mid ≡ false → mid.irrevocable ≡ false → (m : List ℕ) → stands_for mid m ≡ outside_of mid m
stands_outside mid outside revocable m = λ i. state_in (revocable i) mid.writes (none_inside mid.blocks outside i) mid.arena mid.actions m

-- ## A begin

-- one that may go is accepted
pub may_begin : (deepest : ℕ) (arena : List ℕ) (props : Props) (room : ℕ) → 0 < deepest → may_go [] props ≡ true → refusal deepest (outside [] arena) (Begin props room) ≡ None
may_begin deepest arena props room deep may = accepted deepest [] [] arena no_actions [] props room may deep

-- what it is answered where a block is open then
pub begin_served : (mid : Core) (props : Props) (room : ℕ) (r : Reply) (w : Bool) (why : Option Refusal) → in_transaction mid ≡ false → is_inside (blocks_after mid (Begin props room) r) ≡ true → r ≡ recoded (Begin props room) w (reply_unless why (Code 5))
    → (why ≡ None) × (r ≡ begin_code w)
begin_served mid props room r true None o i e = (refl, e)
begin_served mid props room r false None o i e = (refl, e)
begin_served mid props room r true (Some x) o i e = absurd (true≢false (sym i ∙ (ap (λ (y : Reply). is_inside (blocks_after mid (Begin props room) y)) e ∙ o)))
begin_served mid props room r false (Some x) o i e = absurd (true≢false (sym i ∙ (ap (λ (y : Reply). is_inside (blocks_after mid (Begin props room) y)) e ∙ o)))

-- so an accepted one is not refused, and its code says whether it was begun before
pub begin_entered : (mid new : Core) (props : Props) (room : ℕ) (r : Reply) → mid.doing ≡ Some (Begin props room) → IsSettled new → Ends mid (Replied r) new → in_transaction mid ≡ false → mid.irrevocable ≡ false → in_transaction new ≡ true
    → (refusal mid.depth (outside [] mid.arena) (Begin props room) ≡ None) × (r ≡ begin_code mid.again)
begin_entered mid new props room r doing settled g shut revocable now = elim (reply_cases mid new (Begin props room) r doing g) [
  | inl w ↦ (let m = settled.agreed in served m.0 (sym (ap is_inside w.blocks) ∙ now) (w.reply_is m.0 (subst (λ (n : ℕ). IsMemory n m.0) (ap (λ (c : Core). c.words) w.stays) m.1) m.2))
  | inr (inl w) ↦ served [] (sym (inside_all (blocks_after mid (Begin props room) r)) ∙ (sym (ap (λ (c : Core). is_inside c.blocks) w.stays) ∙ now)) (w.reply_is [])
  | inr (inr w) ↦ absurd (true≢false (sym w.irrevocable ∙ revocable))
]
  where
    served : (m : List ℕ) → is_inside (blocks_after mid (Begin props room) r) ≡ true → r ≡ recoded (Begin props room) mid.again (reply mid.depth (stands_for mid m) (Begin props room)) → (refusal mid.depth (outside [] mid.arena) (Begin props room) ≡ None) × (r ≡ begin_code mid.again)
    served m opens e = begin_served mid props room r mid.again (refusal mid.depth (outside_of mid m) (Begin props room)) shut opens (e ∙ ap (λ (s : State). recoded (Begin props room) mid.again (reply mid.depth s (Begin props room))) (stands_outside mid shut revocable m))

-- nor may it not go
pub served_may : (may few : Bool) → or_else (or_else (unless may NoIrrevocable) (unless few TooDeep)) None ≡ None → may ≡ true
served_may true few e = refl
served_may false few e = absurd (cc)

-- the plain machine refuses it only where it may not go irrevocable, so else the engine's reply to one opens
pub begin_opens : (mid new : Core) (m : List ℕ) (props : Props) (room : ℕ) (told : Reply) → Replies mid (Begin props room) told new → 0 < mid.depth → in_transaction mid ≡ false → may_go mid.blocks props ≡ true → IsMemory mid.words m → Agrees m new.log → in_transaction new ≡ true
begin_opens mid new m props room told g deep outside may memory agrees =
    let may_out : may_go [] props ≡ true = (λ i. may_go (sym (none_inside mid.blocks outside) i) props) ∙ may in
    let code = g.reply_is m memory agrees
    ∙ (ap (λ (s : State). recoded (Begin props room) mid.again (reply mid.depth s (Begin props room))) (stands_outside mid outside g.revocable m)
    ∙ ap (λ (why : Option Refusal). recoded (Begin props room) mid.again (reply_unless why (Code 5))) (may_begin mid.depth mid.arena props room deep may_out)) in
    ap is_inside (g.blocks ∙ ap (blocks_after mid (Begin props room)) code) ∙ elim mid.again as (λ (again : Bool). is_inside (blocks_after mid (Begin props room) (recoded (Begin props room) again (Code 5))) ≡ true) [ true ↦ refl | false ↦ refl ]

-- one that goes irrevocable
pub begin_goes : (c : Core) (props : Props) (room : ℕ) → IsSome (irrevocable_room c (Begin props room)) → (props.goes_irrevocable ≡ true) × (may_go c.blocks props ≡ true)
begin_goes c props room g = (let x = goes_with props.goes_irrevocable (may_go c.blocks props) (nat_lt (length c.blocks) c.depth) (not c.irrevocable) room g in (x.0, x.1))

pub call_begins : (call : Call) → IsBegin (Some call) → is_begin call ≡ true
call_begins (Begin props room) b = refl
call_begins call b = absurd b

-- ## Another call

-- it is served with no memory
same_outside : (deepest : ℕ) (writes : List Row) (arena : List ℕ) (actions : Actions) (m : List ℕ) (c : Call)
    → (reply deepest (state_over writes [] arena actions m) c ≡ reply deepest (outside [] arena) c)
    × ((after deepest (state_over writes [] arena actions m) c).arena ≡ (after deepest (outside [] arena) c).arena)
same_outside deepest writes arena actions m (Begin props room) = (refl, same_arena (refusal deepest (outside [] arena) (Begin props room)) _ _ _ _ refl (opened_arena _ arena props ∙ sym (opened_arena [] arena props)))
same_outside deepest writes arena actions m (Load width at) = (refl, same_arena (in_arena (outside [] arena) at (size_of width)) _ _ _ _ refl refl)
same_outside deepest writes arena actions m (Save at value) = (refl, same_arena (in_arena (outside [] arena) at (size_of value.width)) _ _ _ _ refl refl)
same_outside deepest writes arena actions m c = (refl, refl)

-- a begin that opens no block is refused
plainly : (deepest : ℕ) (mid : Core) (c : Call) (again : Bool) (r : Reply) (why : Option Refusal) → is_inside (blocks_after mid c r) ≡ false → why ≡ refusal deepest (outside [] mid.arena) c → r ≡ recoded c again (reply_unless why (answer (outside [] mid.arena) c))
    → (stays_outside deepest mid.arena c ≡ true) × (r ≡ reply_unless why (answer (outside [] mid.arena) c))
plainly deepest mid (Begin props room) true r None shut is e = absurd (true≢false (ap (λ (x : Reply). is_inside (blocks_after mid (Begin props room) x)) (sym e) ∙ shut))
plainly deepest mid (Begin props room) false r None shut is e = absurd (true≢false (ap (λ (x : Reply). is_inside (blocks_after mid (Begin props room) x)) (sym e) ∙ shut))
plainly deepest mid (Begin props room) true r (Some why) shut is e = (ap is_some (sym is), e)
plainly deepest mid (Begin props room) false r (Some why) shut is e = (ap is_some (sym is), e)
plainly deepest mid c again r why shut is e = (refl, e)

-- the engine's reply to it, and its arena then
pub served_outside : (mid new : Core) (c : Call) (r : Reply) (m : List ℕ) → Replies mid c r new → in_transaction mid ≡ false → in_transaction new ≡ false → IsMemory mid.words m → Agrees m new.log
    → (stays_outside mid.depth mid.arena c ≡ true) × (r ≡ reply mid.depth (outside [] mid.arena) c) × (new.arena ≡ (after mid.depth (outside [] mid.arena) c).arena)
served_outside mid new c r m g shut closed mem agrees =
    let same = same_outside mid.depth mid.writes mid.arena mid.actions m c in
    let stands = stands_outside mid shut g.revocable m in
    let revocable : new.irrevocable ≡ false = ap (λ (c : Core). c.irrevocable) g.stays ∙ g.revocable in
    let so = plainly mid.depth mid c mid.again r (refusal mid.depth (outside [] mid.arena) c) (sym (ap is_inside g.blocks) ∙ closed) refl
    (g.reply_is m mem agrees ∙ (ap (λ (s : State). recoded c mid.again (reply mid.depth s c)) stands ∙ ap (recoded c mid.again) same.0)) in (
      so.0,
      so.1,
      sym (ap (λ (b : Bool). (state_in b new.writes new.blocks new.arena new.actions m).arena) revocable) ∙ (ap (λ (s : State). s.arena) (g.meets m mem agrees) ∙ (ap (λ (s : State). (after mid.depth s c).arena) stands ∙ same.1)),
    )
