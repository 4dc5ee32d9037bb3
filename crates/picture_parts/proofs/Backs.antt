-- One step back.
use Rattle.std.proofs.Common.{◌≡◌, ℕ, zero, suc, ◌-◌, ◌<◌, Bool, false, List, slice_get, sym, ap, subst, arith}
use Rattle.std.specs.Prelude.{if◌then◌else◌}
use Rattle.picture_parts.specs.Lanes.{is_thread, lane_in}

before_suc : (k : ℕ) → k ≡ suc k - 1
before_suc k = omega arith

pub lane_back : (columns : List ℕ) (thread n : ℕ) → 0 < n → is_thread thread (slice_get columns (n - 1)) ≡ false → lane_in columns thread (n - 1) ≡ lane_in columns thread n
lane_back columns thread zero h e = absurd (omega (arith, h))
lane_back columns thread (suc k) h e =
    subst (λ (m : ℕ). is_thread thread (slice_get columns m) ≡ false → lane_in columns thread m ≡ lane_in columns thread (suc k)) (before_suc k)
    (λ e. sym (ap (λ (b : Bool). if b then k else lane_in columns thread k) e)) e
