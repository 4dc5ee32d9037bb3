-- What fits a word.
use Rattle.std.specs.Prelude.{◌≡◌, ℕ, ◌<◌, List, length, slice_index}

-- eight bytes
pub record AreEight (bytes : List ℕ) : Type 0 where
  pub length_is : length bytes ≡ 8
  pub small : (i : ℕ) → slice_index bytes i < 256
