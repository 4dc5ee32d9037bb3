-- How many rows there is room for.
use Rattle.std.proofs.Common.{◌≡◌, ℕ, zero, suc, ◌%◌, ◌^◌, ◌≤◌, arith}

-- a power of two that is eight or more is made of eights
pub power_in_eights : (k n : ℕ) → n ≡ 2 ^ k → 8 ≤ n → n % 8 ≡ 0
power_in_eights (suc (suc (suc k))) n is l = omega (arith, is)
power_in_eights k n is l = absurd (omega (arith, is, l))
