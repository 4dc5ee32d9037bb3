-- The index of a value log, and what holds of the fields of every log.
use Rattle.std.specs.Prelude.{◌≡◌, ℕ, ◌<◌, ◌≤◌, ◌-◌, ◌*◌, ◌/◌, ◌%◌, ◌^◌, List, length, Some, slice_get}
use Rattle.std.specs.List.{AllByRecursion}
use Rattle.value_log.specs.declared.index.TheConstants.{SPREAD}
use Rattle.itm_types.specs.declared.row.LogRow.{LogRow}
use Rattle.itm_types.specs.LogRows.{AreSingle}

-- each row's word is one that a memory can have
abbrev pub AllBelow : List LogRow → Type 0
AllBelow rows = AllByRecursion (λ r. r.word < 2 ^ 32 - 1) rows

-- the slot to which a word falls, of so many
abbrev pub slot_of : ℕ → ℕ → ℕ
slot_of slots word = word * SPREAD % 2 ^ 32 * slots / 2 ^ 32

-- the row at the place falls to the slot
abbrev pub FallsTo : ℕ → List LogRow → ℕ → ℕ → Type 0
FallsTo slots rows slot place = (r : LogRow) × (slice_get rows place ≡ Some r) × (slot_of slots r.word ≡ slot)

-- if one of the rows before the end falls to the slot, then the last one that does stands at the place
abbrev pub IsLast : ℕ → List LogRow → ℕ → ℕ → ℕ → Type 0
IsLast slots rows slot end place = (i : ℕ) → i < end → FallsTo slots rows slot i → (i ≤ place) × (place < end) × FallsTo slots rows slot place

-- each slot leads to the last row that falls to it
abbrev pub AreHeads : ℕ → List ℕ → List LogRow → Type 0
AreHeads slots last rows = (slot place : ℕ) → slice_get last slot ≡ Some place → IsLast slots rows slot (length rows) place

-- each row leads to the one before it that falls to the same slot
abbrev pub AreLinks : ℕ → List ℕ → List LogRow → Type 0
AreLinks slots before rows = (i place : ℕ) (r : LogRow) → slice_get rows i ≡ Some r → slice_get before i ≡ Some place → IsLast slots rows (slot_of slots r.word) i place

pub record IsIndex (last before : List ℕ) (rows : List LogRow) : Type 0 where
  pub within : length rows ≤ length before
  pub heads : AreHeads (length last) last rows
  pub links : AreLinks (length last) before rows

-- what holds of an index, which may have been made or not
pub record IsRight (last before : List ℕ) (rows : List LogRow) : Type 0 where
  pub few : length last ≤ 2 ^ 32
  pub index : 0 < length last → IsIndex last before rows

-- the rows are fewer than words can be, and there are as many places
pub record HavePlaces (rows : List LogRow) (places : ℕ) : Type 0 where
  pub few : length rows < 2 ^ 32
  pub within : length rows ≤ places

pub record IsKept (rows : List LogRow) (capacity : ℕ) (last before : List ℕ) : Type 0 where
  pub single : AreSingle rows
  pub below : AllBelow rows
  pub index : IsRight last before rows
  pub room : 0 < length last → capacity ≤ length before
