-- Rows of which an index has the places: what contracts see of them, and what holds of the fields of the rows of every write set.
use Rattle.std.specs.Prelude.{◌≡◌, ◌<◌, ◌≤◌, ◌/◌, ℕ, false, List, Option, length, nat_eq, Some, slice_get}
use Rattle.std.specs.List.{IsDistinct}
use Rattle.std.specs.Map.{keys_of, lookup}
use Rattle.write_set.specs.declared.row.Row.{Row}
use Rattle.write_set.specs.Rows.{AreRows}

pub record Indexed : Type 0 where
  pub rows : List Row
  pub words : List ℕ  -- those of the index
  pub indexed : ℕ  -- the index tells the places of so many first rows, where there are so many

-- there are more rows than few, but the index has many words, and far more
pub record IsCrowded (k : Indexed) : Type 0 where
  pub rows : 8 < length k.rows
  pub words : 4096 < length k.words
  pub more : length k.rows < length k.words / 8

-- the words of an index, each with the place that it tells
abbrev pub Index : Type 0
Index = List (ℕ × ℕ)

abbrev pub place_in : Index → ℕ → Option ℕ
place_in index word = lookup (nat_eq word) index

-- the index tells the places of so many first ones of the list
abbrev pub Tells : Index → List Row → ℕ → Type 0
Tells index list indexed = (place : ℕ) (r : Row) → place < indexed → slice_get list place ≡ Some r → place_in index r.word ≡ Some place

-- another index tells this place of a word, and of each other word what the first one does
pub record Puts (old new : Index) (word place : ℕ) : Type 0 where
  pub here : place_in new word ≡ Some place
  pub others : (other : ℕ) → nat_eq word other ≡ false → place_in new other ≡ place_in old other
  pub distinct : IsDistinct nat_eq (keys_of new)

-- what holds of a list, the number of its first ones that are rows, and an index: no word stands in the list twice, and where there are
-- more rows than few, the index tells the place of each
pub record AreHeld (list : List Row) (len : ℕ) (index : Index) (indexed : ℕ) : Type 0 where
  pub are : AreRows list
  pub within : len ≤ length list
  pub tells : Tells index list indexed
  pub many : 8 < len → len ≤ indexed
  pub distinct : IsDistinct nat_eq (keys_of index)
