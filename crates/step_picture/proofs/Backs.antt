-- One step back, and how far they lead.
use Rattle.std.proofs.Common.{◌≡◌, ℕ, zero, suc, ◌-◌, ◌<◌, ◌≤◌, Bool, true, false, List, slice_get, Option, None, Some, sym, ap, subst, arith, if◌then◌else◌, nat_lt}
use Rattle.step_picture.proofs.Common.{Mark, back_by, back_in, calls_of, known_in, look_of, or_else}

before_suc : (k : ℕ) → k ≡ suc k - 1
before_suc k = omega arith

pub known_back : (marks : List Mark) (thread n : ℕ) → 0 < n → look_of thread (slice_get marks (n - 1)) ≡ None → known_in marks thread (n - 1) ≡ known_in marks thread n
known_back marks thread zero h e = absurd (omega (arith, h))
known_back marks thread (suc k) h e =
    subst (λ (m : ℕ). look_of thread (slice_get marks m) ≡ None → known_in marks thread m ≡ known_in marks thread (suc k)) (before_suc k)
    (λ e. sym (ap (λ (o : Option ℕ). or_else o (known_in marks thread k)) e)) e

pub reply_back : (marks : List Mark) (thread calls n best : ℕ) → 0 < n → calls_of thread (slice_get marks (n - 1)) ≡ None → back_in marks thread calls (n - 1) best ≡ back_in marks thread calls n best
reply_back marks thread calls zero best h e = absurd (omega (arith, h))
reply_back marks thread calls (suc k) best h e =
    subst (λ (m : ℕ). calls_of thread (slice_get marks m) ≡ None → back_in marks thread calls m best ≡ back_in marks thread calls (suc k) best) (before_suc k)
    (λ e. sym (ap (λ (o : Option ℕ). back_by o calls k best (back_in marks thread calls k)) e)) e

-- ## No place lies behind the one at which the search begins

either : (b : Bool) (best before : ℕ) → before ≤ best → (if b then best else before) ≤ best
either true best before h = omega arith
either false best before h = h

within : (had : Option ℕ) (calls n best : ℕ) (on : ℕ → ℕ) → n ≤ best → ((m : ℕ) → n ≤ m → on m ≤ m) → back_by had calls n best on ≤ best
within None calls n best on h f = f best h
within (Some c) calls n best on h f = either (nat_lt c calls) best (on n) (omega (arith, h, f n (omega arith)))

pub back_before : (marks : List Mark) (thread calls n best : ℕ) → n ≤ best → back_in marks thread calls n best ≤ best
back_before marks thread calls zero best h = omega arith
back_before marks thread calls (suc k) best h =
    within (calls_of thread (slice_get marks k)) calls k best (back_in marks thread calls k) (omega (arith, h)) (λ m g. back_before marks thread calls k m g)
