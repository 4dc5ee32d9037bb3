-- Values come back from the numbers that stand for them.
use Rattle.std.proofs.Common.{◌≡◌, ℕ, ℤ, ◌+◌, ◌*◌, ◌/◌, ◌%◌, ◌^◌, ◌<◌, ◌==◌, not, cond, Bool, true, false, List, length, get_or, refl, arith}
use Rattle.std.proofs.lemmas.Int.{to_z-of_z}
use Rattle.std.specs.Int.RustNames.{FitsSigned}
use Rattle.std.specs.Int.{w64, cast_signed, cast_unsigned, from_le_bytes, to_le_bytes}
use Rattle.std.proofs.lemmas.Nat.{le_bytes_8}
use Rattle.typed_cells.specs.Words.{AreEight}

pub byte_back : (x : ℕ) → x < 256 → x % 256 ≡ x
byte_back x h = omega arith

pub short_back : (x : ℕ) → x < 2 ^ 16 → x % 2 ^ 16 ≡ x
short_back x h = omega arith

pub long_back : (x : ℕ) → x < 2 ^ 32 → x % 2 ^ 32 ≡ x
long_back x h = omega arith

pub bool_back : (b : Bool) → Unit {0} → not (cond b 1 0 == 0) ≡ b
bool_back true h = refl
bool_back false h = refl

pub signed_back : (x : ℤ) → FitsSigned w64 x → cast_signed w64 (cast_unsigned w64 x) ≡ x
signed_back x h = to_z-of_z w64 x h

pub bytes_back : (bytes : List ℕ) → AreEight bytes → to_le_bytes w64 (from_le_bytes w64 bytes) ≡ bytes
bytes_back bytes h = le_bytes_8 bytes (from_le_bytes w64 bytes) h.length_is h.small refl

pub low_back : (a b : ℕ) → a < 2 ^ 32 → (a + 2 ^ 32 * b) % 2 ^ 32 ≡ a
low_back a b h = omega arith

pub high_back : (a b : ℕ) → a < 2 ^ 32 → (a + 2 ^ 32 * b) / 2 ^ 32 ≡ b
high_back a b h = omega arith

pub pair_back : (p : ℕ × ℕ) → (p.0 < 2 ^ 32) × (p.1 < 2 ^ 32) → ((p.0 + 2 ^ 32 * p.1) % 2 ^ 32, (p.0 + 2 ^ 32 * p.1) / 2 ^ 32) ≡ p
pair_back p h = rw (low_back p.0 p.1 h.0, high_back p.0 p.1 h.0)
