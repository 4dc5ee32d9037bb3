-- Where a search for a key ends.
use Rattle.std.specs.Prelude.{◌≡◌, ◌⊎◌, ℕ, ◌+◌, ◌*◌, ◌<◌, List, Option, None, Some}
use Rattle.typed_cells.specs.declared.cell.Cell.{Cell}
use Rattle.tx_map.specs.Slots.{Passes, Slots, slot_of}
use Rattle.tx_map.specs.Tables.{slots_in}

-- after so many steps it comes to the slot at this place, which has this, the key or none
pub record Stops (first count : ℕ) (slots : Slots) (key place : ℕ) (pair : ℕ × ℕ) : Type 0 where
  pub steps : ℕ
  pub few : steps < count
  pub passes : Passes count slots key steps
  pub place_is : place ≡ first + 8 * slot_of count key steps
  pub pair_is : slots (slot_of count key steps) ≡ pair
  pub ends : (pair.0 ≡ key) ⊎ (pair.0 ≡ 0)

abbrev pub IsFound : ℕ → ℕ → Slots → ℕ → Option (Cell (ℕ × ℕ) × (ℕ × ℕ)) → Type 0
IsFound first count slots key (Some found) = Stops first count slots key found.0.place found.1
IsFound first count slots key None = Passes count slots key count

-- it changes nothing
pub record HasFound (first count key : ℕ) (found : Option (Cell (ℕ × ℕ) × (ℕ × ℕ))) (old new : List ℕ) : Type 0 where
  pub same : new ≡ old
  pub ends : IsFound first count (slots_in old first) key found
