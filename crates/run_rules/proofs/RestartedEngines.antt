-- By which calls the innermost block may go back to its begin, and what that leaves of the engine.
use Rattle.std.proofs.Common.{◌≡◌, ◌&&◌, not, nat_lt, ℕ, ◌+◌, ◌-◌, ◌<◌, ◌≤◌, Bool, true, false, List, [], ◌∷◌, ◌++◌, length, None, refl, sym, ap, subst, ◌∙◌, inl, inr, arith}
use Rattle.run_rules.proofs.Common.{Answer, Answers, Asks, Attempt, BeganBy, Call, Core, Ends, Frame, Idle, IsAtOnce, IsBacked, IsMemory, IsRestart, IsSettled, Kept, LeavesRestarts, MayRenew, Next, Open, Proceeds, Ran, Restarted, Restarts, Savepoint, State, and_parts, blocks_renewed, can_restart, cancel_runs, cases_Bool, due_at, idle_so, in_transaction, is_inside, is_within, length-append, lt-ltb, may_go_back, may_validate, not-true, restart_parts, restarts_left, rests, stage_at, stand_of, stands_for, told_in, total}
use Rattle.std.proofs.Math.Bool.{and-true}
use Rattle.run_rules.proofs.RestartedLengths.{again_long, renewed_long}
use Rattle.run_rules.proofs.RestartsLeft.{left_inside, left_most, left_outside}
use Rattle.run_rules.proofs.EngineStates.{stands_arena}

-- ## Calls

-- no call is answered so without a step
not_soon : (a : Answer) → IsAtOnce (Answers a) → IsRestart a → ⊥
not_soon (Restarted clock word) soon is = soon
not_soon a soon is = absurd is

pub not_at_once : (what : Next) → IsAtOnce what → (a : Answer) → what ≡ Answers a → IsRestart a → ⊥
not_at_once what soon a is = not_soon a (subst IsAtOnce is soon)

pub within_inside : (bs : List Frame) → is_within bs ≡ true → is_inside bs ≡ true
within_inside [] e = absurd (cc)
within_inside (b ∷ bs) e = refl

-- ## The engine then

pub within_long : (bs : List Frame) → is_within bs ≡ true → 1 < length bs
within_long [] e = absurd (cc)
within_long (b ∷ []) e = absurd (cc)
within_long (b ∷ p ∷ bs) e = omega arith

renewed_inside : (bs : List Frame) → is_inside (blocks_renewed bs) ≡ is_inside bs
renewed_inside [] = refl
renewed_inside (b ∷ bs) = refl

pub may_inside : (e : Core) → may_go_back e ≡ true → in_transaction e ≡ true
may_inside e may = (let two = (and_parts (nat_lt e.restarted e.restarts) (not e.irrevocable && is_within e.blocks) may).1 in within_inside e.blocks (and_parts (not e.irrevocable) (is_within e.blocks) two).1)

pub revocable_back : (e : Core) → may_go_back e ≡ true → e.irrevocable ≡ false
revocable_back e may = (let two = (and_parts (nat_lt e.restarted e.restarts) (not e.irrevocable && is_within e.blocks) may).1 in not-true e.irrevocable (and_parts (not e.irrevocable) (is_within e.blocks) two).0)

-- by a call that is not answered without a step it does, where it may
pub restarts_by : (c : Core) (call : Call) (again : Bool) → may_go_back c ≡ true → (stage_at c call again ≡ Idle → ⊥) → can_restart c call ≡ true
restarts_by c call again may asks = by_call (may_validate call) refl
  where
    by_call : (v : Bool) → may_validate call ≡ v → can_restart c call ≡ true
    by_call true v =
        ap (λ (x : Bool). nat_lt c.restarted c.restarts && (not c.irrevocable && (is_within c.blocks && x))) v
        ∙ (ap (λ (x : Bool). nat_lt c.restarted c.restarts && (not c.irrevocable && x)) (and-true (is_within c.blocks)) ∙ may)
    by_call false v =
        let within = (and_parts (not c.irrevocable) (is_within c.blocks) (and_parts (nat_lt c.restarted c.restarts) (not c.irrevocable && is_within c.blocks) may).1).1 in
        absurd (asks (idle_so c again (revocable_back c may) (may_inside c may) within call v))

pub may_same : (c d : Core) → c.restarted ≡ d.restarted → c.restarts ≡ d.restarts → c.irrevocable ≡ d.irrevocable → c.blocks ≡ d.blocks → may_go_back c ≡ may_go_back d
may_same c d made most mode blocks = λ i. nat_lt (made i) (most i) && (not (mode i) && is_within (blocks i))

pub restarted_more : (mid new : Core) (what : Next) → IsSettled new → Proceeds mid what new → mid.restarted ≤ new.restarted
restarted_more mid new (Asks step) settled g = omega (arith, ap (λ (c : Core). c.restarted) g.stays)
restarted_more mid new (Answers (Restarted clock word)) settled g = omega (arith, ap (λ (c : Core). c.restarted) g.stays)
restarted_more mid new (Answers answer) settled g = omega (arith, (rests mid new answer g).restarted (λ is. is))

pub record IsBack (mid new : Core) : Type 0 where
  pub may : may_go_back mid ≡ true
  pub was : in_transaction mid ≡ true
  pub still : in_transaction new ≡ true
  pub deep : length new.blocks ≡ length mid.blocks
  pub inner : 1 < length mid.blocks
  pub counted : new.restarted ≡ mid.restarted + 1
  pub fewer : mid.restarted < mid.restarts
  pub arena : length new.arena ≡ length mid.arena
  pub more : List Ran
  pub ran : new.actions.ran ≡ mid.actions.ran ++ more
  pub most : total new.actions ≤ total mid.actions
  pub revocable : new.irrevocable ≡ false
  pub done : new.doing ≡ None

pub is_back : (mid new : Core) (clock word : ℕ) → IsSettled new → Restarts mid clock word new → IsBack mid new
is_back mid new clock word settled g =
    let parts = restart_parts mid g.place g.may in
    let runs = cancel_runs mid.blocks mid.actions in
    let words = ap (λ (c : Core). c.words) g.stays in
    let m = settled.agreed.0 in
    let meets = g.meets m (subst (λ (n : ℕ). IsMemory n m) words settled.agreed.1) settled.agreed.2 in
    record {
      may = (λ i. lt-ltb mid.restarted mid.restarts parts.2 i && (not (g.revocable i) && parts.0 i));
      was = within_inside mid.blocks parts.0;
      still = ap in_transaction g.stays ∙ (renewed_inside mid.blocks ∙ within_inside mid.blocks parts.0);
      deep = ap (λ (c : Core). length c.blocks) g.stays ∙ renewed_long mid.blocks;
      inner = within_long mid.blocks parts.0;
      counted = ap (λ (c : Core). c.restarted) g.stays;
      fewer = parts.2;
      arena = sym (ap (length {A = ℕ}) (stands_arena new m)) ∙ (ap (λ (s : State). length s.arena) meets
          ∙ (again_long mid.blocks (stands_for mid m) ∙ ap (length {A = ℕ}) (stands_arena mid m)));
      more = runs.later;
      ran = ap (λ (c : Core). c.actions.ran) g.stays ∙ runs.ran;
      most = (let n = runs.most in let same = ap (λ (c : Core). total c.actions) g.stays in omega arith);
      revocable = ap (λ (c : Core). c.irrevocable) g.stays ∙ g.revocable;
      done = ap (λ (c : Core). c.doing) g.stays;
    }

-- ## Room for it

-- what had come to run as the innermost block began has, with other room for the attempt's calls, and once more has come to run
pub began_later : (points : List Savepoint) (row : Attempt) (calls : Kept) (n m : ℕ) → n ≤ m → BeganBy points row n → BeganBy points (record row { calls = calls }) m
began_later [] row calls n m l began = tt
began_later (s ∷ outer) row calls n m l began = (let r : due_at s row.restarts ≤ m = omega (arith, began, l) in r)

-- the room that was made for the call serves
pub renew_room : {mid new : Core} → IsBack mid new → (o : Open) → told_in o.row ≡ length mid.actions.ran → BeganBy o.points o.row (length mid.actions.ran) → IsBacked (length mid.arena) (total mid.actions) o → MayRenew (stand_of new) o
renew_room {mid} {new} b o told began backed =
    let more = ap (length {A = Ran}) b.ran ∙ length-append mid.actions.ran b.more in
    record {
      told = omega arith;
      began = began_later o.points o.row o.row.calls (length mid.actions.ran) (length new.actions.ran) (omega arith) began;
      backed = record { room = backed.room; has = backed.has; records = backed.records; arena = (let l = backed.arena in let same = b.arena in omega arith); undone = (let l = backed.undone in let most = b.most in omega arith) };
    }

-- ## Restarts that are left

pub left_same : (c d : Core) → in_transaction c ≡ in_transaction d → c.restarts ≡ d.restarts → (in_transaction d ≡ true → c.restarted ≡ d.restarted) → restarts_left c ≡ restarts_left d
left_same c d sides most made = elim (cases_Bool (in_transaction d)) [
  | inl o ↦ left_inside c (sides ∙ o) ∙ ((λ i. most i - made o i) ∙ sym (left_inside d o))
  | inr o ↦ left_outside c (sides ∙ o) ∙ (most ∙ sym (left_outside d o))
]

-- by an answer
left_less : (mid new : Core) → new.restarts ≡ mid.restarts → new.restarted ≡ mid.restarted → (in_transaction mid ≡ true → in_transaction new ≡ false → ⊥) → restarts_left new ≤ restarts_left mid
left_less mid new most made ends = elim (cases_Bool (in_transaction mid)) [
  | inl o ↦ elim (cases_Bool (in_transaction new)) [ inl n ↦ omega (arith, left_inside mid o, left_inside new n) | inr n ↦ absurd (ends o n) ]
  | inr o ↦ (let few = left_most new in let all = left_outside mid o in omega arith)
]

pub leaves_left : (mid new : Core) (answer : Answer) → IsSettled new → Ends mid answer new → LeavesRestarts (in_transaction mid) (in_transaction new) (restarts_left mid) (restarts_left new) answer
leaves_left mid new (Restarted clock word) settled g =
    let b = is_back mid new clock word settled g in
    let most = (rests mid new (Restarted clock word) g).restarts in
    omega (arith, b.counted, b.fewer, most, left_inside mid b.was, left_inside new b.still)
leaves_left mid new answer settled g = λ ends. (let r = rests mid new answer g in left_less mid new r.restarts (r.restarted (λ is. is)) ends)
