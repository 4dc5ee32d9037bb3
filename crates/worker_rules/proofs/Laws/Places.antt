-- Places in the open attempt for what comes of a call.
use Rattle.std.proofs.Common.{◌≡◌, inl, inr, ℕ, suc, ◌≤◌, Bool, true, false, if◌then◌else◌, List, [], ◌∷◌, length, Vec, Global, refl, ap, subst, arith}
use Rattle.worker_rules.proofs.Common.{Answer, Attempt, Begin, Begins, Between, Call, Core, Current, Frame, HasBlockPlaces, HasPlaces, HaveBegun, IsOpenTry, IsPromised, IsRestart, KeepsBlockPlaces, KeepsPlaces, MayTell, Most, Open, OpensBy, Outside, Props, Ran, Reply, Restarted, Rules, Savepoint, Stand, Within, bounds_now, cut_back, entered_by, is_begin, is_within, opens_most, outside, promised, stage_at, stage_of, within}

-- ## The attempt at hand

-- what is so where none is open, is so if it is of the one that is open
pub if_open : (Q : Current → Type 0) → Q Outside → ((o : Open) → Q (Begins o)) → (x : Current) → ((o : Open) → x ≡ Within o → Q (Within o)) → Q x
if_open Q none begun Outside open_so = none
if_open Q none begun (Begins o) open_so = begun o
if_open Q none begun (Within o) open_so = open_so o refl

pub open_within : (x : Current) (row : Attempt) (points : List Savepoint) → stage_of x ≡ within row points → (o : Open) × (x ≡ Within o) × (o.row ≡ row) × (o.points ≡ points)
open_within (Within o) row points is = (o, refl, (let same : o.row ≡ row = cc in same), (let same : o.points ≡ points = cc in same))
open_within x row points is = absurd (cc)

pub none_at : (x : Current) → stage_of x ≡ outside → x ≡ Outside
none_at Outside is = refl
none_at x is = absurd (cc)

-- a call that comes outside opens none
pub none_within : (call : Call) (opens : Props → Attempt) (ahead : ℕ) (row : Attempt) (points : List Savepoint) → within row points ≡ stage_at outside call opens ahead → ⊥
none_within (Begin props room) opens ahead row points is = cc
none_within call opens ahead row points is = cc

-- there is a place to tell it in
pub tells_in : (e : Core) (ended : Vec Attempt Global) (x : Current) → HasPlaces e ended x → MayTell x ended
tells_in e ended (Within o) places = places.0
tells_in e ended Outside places = tt
tells_in e ended (Begins o) places = tt

-- ## Places for blocks

-- a call opens one block at most, and takes a place of the room
pub blocks_opened : (call : Call) (answer : Answer) (s : Stand) (ran : List Ran) (x : Current) (o : Open) → (IsRestart answer → o.row.calls.room ≡ 0) → KeepsPlaces ran x (Within o) → KeepsBlockPlaces x → OpensBy (stage_of x) call answer s o.row o.points → HasBlockPlaces (Within o)
blocks_opened call answer s ran Outside o back keeps had opens = absurd keeps
blocks_opened call (Reply r) s ran (Begins was) o back keeps had (inl h) = absurd (let e = h.2 in cc)
blocks_opened call (Reply r) s ran (Begins was) o back keeps had (inr h) = λ some.
    (let same : was.row ≡ h.0 = (let e = h.1 in cc) in
    let room = ap (λ (a : Attempt). a.calls.room) same in
    let now = ap (λ (a : Attempt). a.calls.room) h.2 in
    let none = ap (length {A = Savepoint}) h.3 in
    let deep = keeps.2 in
    omega arith)
blocks_opened call (Reply r) s ran (Within was) o back keeps had (inl h) = λ some.
    (let same : was.row ≡ h.0 = (let e = h.2 in cc) in
    let points : was.points ≡ h.1 = (let e = h.2 in cc) in
    let room = ap (λ (a : Attempt). a.calls.room) same in
    let now = ap (λ (a : Attempt). a.calls.room) h.3 in
    let before = ap (length {A = Savepoint}) points in
    let after = ap (length {A = Savepoint}) h.4 in
    let most = opens_most (record { kept = suc (length h.0.calls.list); ran = length h.0.ran }) h.1 (record { call = call; reply = r }) in
    let one = one_most (is_begin call) in
    let deep = keeps.2 in
    let had_so = had (omega arith) in
    omega arith)
  where
    one_most : (b : Bool) → (if b then 1 else 0) ≤ 1
    one_most true = omega arith
    one_most false = omega arith
blocks_opened call (Reply r) s ran (Within was) o back keeps had (inr h) = absurd (let e = h.1 in cc)
blocks_opened call (Restarted clock word) s ran x o back keeps had opens = λ some. absurd (let none = back tt in omega arith)
blocks_opened call answer s ran x o back keeps had opens = absurd opens

-- where an inner block is open, and the transaction may be tried again, its begin is among these
module _ {P : Type 0} {rules : Rules P} {deepest : ℕ} {position : List ℕ} {b : Between P} {row : Attempt} {points : List Savepoint} {p : P} {e : Core} (t : IsOpenTry rules deepest position b row points p e) where
  some_begun : (most : Most) (bs : List Frame) (qs : List Savepoint) → is_within bs ≡ true → HaveBegun rules deepest (entered_by rules deepest t.of_block) row e most bs qs → qs ≡ [] → ⊥
  some_begun most [] qs inner h none = absurd (cc)
  some_begun most (f ∷ []) qs inner h none = absurd (cc)
  some_begun most (f ∷ o ∷ outer) [] inner h none = h
  some_begun most (f ∷ o ∷ outer) (s ∷ qs) inner h none = absurd (cc)

  pub has_points : e.irrevocable ≡ false → is_within e.blocks ≡ true → points ≡ [] → ⊥
  has_points revocable inner none = some_begun (bounds_now row e) e.blocks points inner (t.blocks revocable) none

-- ## Room for calls

-- the attempt at hand has room for as many as are promised, at most
pub promised_in : (e : Core) (x : Current) (row : Attempt) (points : List Savepoint) → stage_of x ≡ within row points → IsPromised e x → row.calls.room ≤ promised e
promised_in e x row points is few =
    let w = open_within x row points is in
    let had = subst (IsPromised e) w.1 few in
    let room = ap (λ (a : Attempt). a.calls.room) w.2 in
    omega arith

-- cut back to the begin of a block it has none
pub cut_room : (points : List Savepoint) (arena : List ℕ) (due : List Ran) (row : Attempt) → (points ≡ [] → ⊥) → (cut_back points arena due row).calls.room ≡ 0
cut_room [] arena due row some = absurd (some refl)
cut_room (s ∷ outer) arena due row some = refl
