-- What a reply makes of a script: how many blocks it has open, and how much room its open attempt has.
use Rattle.std.proofs.Common.{◌≡◌, inl, inr, ℕ, ◌+◌, ◌-◌, ◌<◌, ◌≤◌, Bool, true, false, nat_lt, if◌then◌else◌, List, [], length, replicate, Option, None, Some, IsSome, unwrap_or, refl, sym, ap, subst, ◌∙◌, arith}
use Rattle.script_laws.proofs.Common.{Attempt, Begin, Call, Code, Core, Done, GaveUp, Kept, MayReply, Mode, Replied, Savepoint, Stage, Stand, Taken, Tally, Thread, Ways, abort_of, begins, carried_room, depth_after, depth_by, entered, irrevocable_room, is_begin, is_commit, ltb-false, ltb-true, outside, replied, reserved, tried, went_on, with_call, within}
use Rattle.itm_types.specs.Memory.{IsMemory}
use Rattle.itm_types.specs.declared.call.Props.{Props}
use Rattle.itm_types.specs.declared.call.Refusal.TheVariants.{NoIrrevocable, TooDeep}
use Rattle.itm_model.{specs.Machine.or_else, specs.Machine.reply, specs.Machine.reply_unless, specs.Machine.unless, specs.State.State}
use Rattle.norec_core.{specs.Effects.recoded, specs.Proceeds.IsSettled, specs.Stands.stands_for}
use Rattle.tx_attempts.specs.Restarts.{ran_on}
use Rattle.tx_runs.specs.Savepoints.{savepoints_after}
use Rattle.run_rules.proofs.EngineStates.{stands_blocks}

-- ## A begin that is accepted

-- one block more may be open
begin_fits : (deepest : ℕ) (s : State) (props : Props) (room n : ℕ) (again : Bool) → recoded (Begin props room) again (reply deepest s (Begin props room)) ≡ Code n → length s.blocks < deepest
begin_fits deepest s props room n again e = by_tests _ (nat_lt (length s.blocks) deepest) again refl e
  where
    by_tests : (may few again : Bool) → nat_lt (length s.blocks) deepest ≡ few → recoded (Begin props room) again (reply_unless (or_else (or_else (unless may NoIrrevocable) (unless few TooDeep)) None) (Code 5)) ≡ Code n → length s.blocks < deepest
    by_tests true true again is e = ltb-true (length s.blocks) deepest is
    by_tests true few true is e = absurd (cc)
    by_tests may few true is e = absurd (cc)
    by_tests may few again is e = absurd (cc)

pub engine_fits : (mid new : Core) (call : Call) (r : Replied) (n : ℕ) → is_begin call ≡ true → r ≡ Code n → IsSettled new → Ways mid new call r → length mid.blocks < mid.depth
engine_fits mid new (Begin props room) r n opens is settled ways = elim ways [
  | inl w ↦ (let m = settled.agreed in by_state m.0 mid.again (w.reply_is m.0 (subst (λ (k : ℕ). IsMemory k m.0) (ap (λ (c : Core). c.words) w.stays) m.1) m.2))
  | inr (inl w) ↦ by_state [] mid.again (w.reply_is [])
  | inr (inr w) ↦ by_state (replicate mid.words 0) false w.reply_is
]
  where
    by_state : (m : List ℕ) (again : Bool) → r ≡ recoded (Begin props room) again (reply mid.depth (stands_for mid m) (Begin props room)) → length mid.blocks < mid.depth
    by_state m again e = subst (λ (k : ℕ). k < mid.depth) (stands_blocks mid m) (begin_fits mid.depth (stands_for mid m) props room n again (sym e ∙ is))
engine_fits mid new call r n opens is settled ways = absurd (cc)

-- ## Depth

-- no other call opens a block
pub deeper_begins : (deep : ℕ) (call : Call) (r : Replied) → deep < depth_after deep call r → (is_begin call ≡ true) × (n : ℕ) × (r ≡ Code n)
deeper_begins deep call r more = by_kind (is_begin call) refl (is_commit call) (abort_of call) r more
  where
    by_kind : (begin : Bool) → is_begin call ≡ begin → (commit : Bool) (abort : Option Bool) (r : Replied) → deep < depth_by begin commit abort deep r → (is_begin call ≡ true) × (n : ℕ) × (r ≡ Code n)
    by_kind true is commit abort (Code n) l = (is, n, refl)
    by_kind false is true abort Done l = absurd (omega arith)
    by_kind false is false (Some true) (Code k) l = absurd (omega arith)
    by_kind false is false (Some false) (Code k) l = absurd (omega arith)
    by_kind begin is commit abort r l = absurd (omega arith)

-- at most one
pub one_deeper : (deep : ℕ) (call : Call) (r : Replied) → depth_after deep call r ≤ deep + 1
one_deeper deep call r = by_kind (is_begin call) (is_commit call) (abort_of call) r
  where
    by_kind : (begin commit : Bool) (abort : Option Bool) (r : Replied) → depth_by begin commit abort deep r ≤ deep + 1
    by_kind true commit abort (Code n) = omega arith
    by_kind false true abort Done = omega arith
    by_kind false false (Some true) (Code k) = omega arith
    by_kind false false (Some false) (Code k) = omega arith
    by_kind begin commit abort r = omega arith

pub entered_may : (deep : ℕ) (call : Call) → is_begin call ≡ true → MayReply deep call (Code 5)
entered_may deep (Begin props room) is = tt
entered_may deep call is = absurd (cc)

-- ## Room

told_if : (b : Bool) (room : ℕ) → IsSome (if b then Some room else None) → Some room ≡ Some (unwrap_or (if b then Some room else None) 0)
told_if true room some = refl
told_if false room some = absurd (cc)

-- a call that makes its transaction irrevocable tells the room that it asks for
pub told_as_asked : (e : Core) (call : Call) → IsSome (irrevocable_room e call) → carried_room call ≡ Some (unwrap_or (irrevocable_room e call) 0)
told_as_asked e (Begin props room) some = told_if _ room some
told_as_asked e (Mode room) some = told_if _ room some
told_as_asked e call some = absurd (cc)

pub reserved_least : (k : Kept) (more : ℕ) → (k.room ≤ (reserved k more).room) × (more ≤ (reserved k more).room)
reserved_least k more = by_test (nat_lt k.room more) refl
  where
    by_test : (b : Bool) → nat_lt k.room more ≡ b → (k.room ≤ (if b then more else k.room)) × (more ≤ (if b then more else k.room))
    by_test true is = (let l = ltb-true k.room more is in (omega arith, omega arith))
    by_test false is = (let l = ltb-false k.room more is in (omega arith, omega arith))

-- how much the open attempt has once a reply is told
abbrev pub HasLeft : Stage → ℕ → Type 0
HasLeft outside n = ⊥
HasLeft (begins b) n = n ≡ b.calls.room
HasLeft (within b points) n = n ≡ b.calls.room - 1

pub open_room : (g : Stage) (t : Tally Thread) → t.stage ≡ g → (call : Call) (r : Replied) (s : Stand) (row : Attempt) (points : List Savepoint) → (replied g t call r s).tally.stage ≡ within row points → HasLeft g row.calls.room
open_room outside t is call r s row points e = (let f : outside ≡ within row points = sym is ∙ e in cc)
open_room (begins b) t is call r s row points e = by_open s.is_open e
  where
    by_open : (o : Bool) → (entered o t b s).stage ≡ within row points → row.calls.room ≡ b.calls.room
    by_open true e = (let f : row ≡ record b { at = s.at } = cc in ap (λ (x : Attempt). x.calls.room) f)
    by_open false e = absurd (cc)
open_room (within b inner) t is call r s row points e = by_open s.is_open (with_call call r b) (savepoints_after inner b (record { call = call; reply = r })) refl e
  where
    by_open : (o : Bool) (x : Attempt) (now : List Savepoint) → x.calls.room ≡ b.calls.room - 1 → (went_on o t x now s).tally.stage ≡ within row points → row.calls.room ≡ b.calls.room - 1
    by_open true x now room e = (let f : row ≡ record x { ran = ran_on x.ran x.restarts s.ran } = cc in ap (λ (y : Attempt). y.calls.room) f ∙ room)
    by_open false x now room e = absurd (cc)

pub replied_player : (g : Stage) (t : Tally Thread) (call : Call) (r : Replied) (s : Stand) → (replied g t call r s).tally.player ≡ t.player
replied_player outside t call r s = refl
replied_player (begins b) t call r s = elim s.is_open as (λ (o : Bool). (entered o t b s).player ≡ t.player) [ true ↦ refl | false ↦ refl ]
replied_player (within b inner) t call r s =
    elim s.is_open as (λ (o : Bool). (went_on o t (with_call call r b) (savepoints_after inner b (record { call = call; reply = r })) s).tally.player ≡ t.player) [ true ↦ refl | false ↦ refl ]

pub tried_so : (retries : ℕ) (t : Tally Thread) (over : List Attempt) → ((tried retries t over).tally.player ≡ t.player) × ((tried retries t over).tally.stage ≡ outside)
tried_so retries t over = elim (nat_lt retries t.nth) as (λ (b : Bool). (let x : Taken Thread = if b then record { tally = record t { stage = outside }; over = over; end = Some GaveUp } else record { tally = record t { nth = t.nth + 1; stage = outside }; over = over; end = None } in (x.tally.player ≡ t.player) × (x.tally.stage ≡ outside))) [ true ↦ (refl, refl) | false ↦ (refl, refl) ]
