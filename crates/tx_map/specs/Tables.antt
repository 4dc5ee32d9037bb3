-- A hash map in the bytes of a memory: so many slots of a word each, from a place on.
use Rattle.std.specs.Prelude.{◌≡◌, ℕ, ◌+◌, ◌*◌, ◌/◌, ◌%◌, ◌^◌, ◌<◌, ◌≤◌, List, length, take, drop}
use Rattle.std.specs.Int.{w64, from_le_bytes}
use Rattle.itm_types.specs.Slices.{slice}
use Rattle.tx_map.specs.Slots.{IsMap, Slots}

-- a word has the key in its low half and the value in its high one
abbrev pub pair_of : ℕ → ℕ × ℕ
pair_of n = (n % 2 ^ 32, n / 2 ^ 32)

abbrev pub slots_in : List ℕ → ℕ → Slots
slots_in bytes first i = pair_of (from_le_bytes w64 (slice bytes (first + 8 * i) 8))

-- the bytes have a map there
pub record HasMap (first count : ℕ) (bytes : List ℕ) : Type 0 where
  pub room : first + 8 * count ≤ length bytes
  pub map : IsMap count (slots_in bytes first)

-- with no key in it
pub record IsEmpty (first count : ℕ) (bytes : List ℕ) : Type 0 where
  pub map : HasMap first count bytes
  pub free : (i : ℕ) → i < count → (slots_in bytes first i).0 ≡ 0

-- what lies beside it is as it was
pub record SameBeside (first count : ℕ) (old new : List ℕ) : Type 0 where
  pub length_is : length new ≡ length old
  pub below : take first new ≡ take first old
  pub above : drop (first + 8 * count) new ≡ drop (first + 8 * count) old
