-- The room of an open attempt serves whatever comes of an answer.
use Rattle.std.proofs.Common.{◌≡◌, Bool, true, false, if◌then◌else◌, ℕ, ◌+◌, ◌<◌, ◌≤◌, max, List, [], ◌∷◌, drop, length, Option, None, Some, is_some, unwrap_or, Result, Ok, Err, OnErr, refl, ap, arith}
use Rattle.tx_runs.proofs.Common.{Attempt, Begin, Call, Code, Current, Done, Outside, Props, Replied as Reply, Stage, begins_again, open_after, open_by, outside, promised, stage_at, stage_of}
use Rattle.tx_attempts.{specs.declared.attempt.CallRecord.CallRecord, specs.Kept.Kept, specs.Kept.reserved}
use Rattle.norec_core.specs.Core.{Core}
use Rattle.itm_types.specs.Calls.{abort_of, is_begin, is_commit}

-- ## Where memory is refused

pub on_err : {T E A : Type 0} (r : Result T E) → A → OnErr r A
on_err (Ok v) a = tt
on_err (Err e) a = a

pub err_with : {T E A B : Type 0} (r : Result T E) → (A → B) → OnErr r A → OnErr r B
err_with (Ok v) f a = tt
err_with (Err e) f a = f a

-- a call opens one inner block, or none
pub opens_most : {A : Type 0} (new : A) (begins : List A) (e : CallRecord) → length (open_after new begins e) ≤ length begins + (if is_begin e.call then 1 else 0)
opens_most {A} new begins e = by_kind (is_begin e.call) (is_commit e.call) (abort_of e.call) e.reply
  where
    dropped : (l : List A) → length (drop 1 l) ≤ length l + 0
    dropped [] = omega arith
    dropped (x ∷ l) = omega arith

    by_kind : (begin commit : Bool) (abort : Option Bool) (reply : Reply) → length (open_by begin commit abort new begins reply) ≤ length begins + (if begin then 1 else 0)
    by_kind true commit abort (Code code) = omega arith
    by_kind true commit abort reply = omega arith
    by_kind false true abort Done = dropped begins
    by_kind false true abort reply = omega arith
    by_kind false false (Some true) (Code code) = omega arith
    by_kind false false (Some false) (Code code) = dropped begins
    by_kind false false (Some outer) reply = omega arith
    by_kind false false None reply = omega arith

-- ## Room that is made for a call

-- a place for it, and so many as it asks for
pub reserved_least : (k : Kept) (ahead : ℕ) → ahead < (reserved k (ahead + 1)).room
reserved_least k ahead = grind arith

pub reserved_most : (k : Kept) (ahead most : ℕ) → k.room ≤ most → (reserved k (ahead + 1)).room ≤ max most (ahead + 1)
reserved_most k ahead most few = grind arith

pub reserved_more : (k : Kept) (more : ℕ) → k.room ≤ (reserved k more).room
reserved_more k more = grind arith

-- ## A call that begins nothing

pub outside_current : (c : Current) → stage_of c ≡ outside → c ≡ Outside
outside_current Outside e = refl
outside_current c e = absurd (cc)

pub begins_none : (call : Call) (row : Props → Attempt) (ahead : ℕ) → is_begin call ≡ false → stage_at outside call row ahead ≡ outside
begins_none (Begin props room) row ahead other = absurd (cc)
begins_none call row ahead other = refl

pub again_none : (s : Stage) (again : Bool) (call : Call) → is_begin call ≡ false → begins_again s again call ≡ false
again_none outside again (Begin props room) other = absurd (cc)
again_none s again call other = refl

-- ## Room that is promised

pub promised_held : (e : Core) → e.irrevocable ≡ true → promised e ≡ e.room
promised_held e held = ap (λ (b : Bool). if b then e.room else 0) held

pub promised_none : (e : Core) → e.irrevocable ≡ false → promised e ≡ 0
promised_none e revocable = ap (λ (b : Bool). if b then e.room else 0) revocable

-- what is not asked for is none
pub none_asked : (o : Option ℕ) → is_some o ≡ false → unwrap_or o 0 ≡ 0
none_asked None e = refl
none_asked (Some n) e = absurd (cc)
