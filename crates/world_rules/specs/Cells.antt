-- The shared cells: the sequence clock and the words of the memory.
use Rattle.std.specs.Prelude.{◌≡◌, ℕ, zero, suc, ◌≤◌, ◌==◌, if◌then◌else◌, List, slice_set, slice_index}
use Rattle.itm_types.specs.declared.step.Step.{Step}
use Rattle.itm_types.specs.declared.step.Step.TheVariants.{Load, Store, Cas}

pub record Cells : Type 0 where
  pub clock : ℕ
  pub words : List ℕ

-- the cell is one of a memory of so many words
abbrev pub IsCell : ℕ → Step → Type 0
IsCell words (Load cell) = cell ≤ words
IsCell words (Store cell value) = cell ≤ words
IsCell words (Cas cell from to) = cell ≡ 0

-- what the operation finds: the value loaded, the one that an exchange meets, or 0
abbrev pub found : Cells → Step → ℕ
found c (Load zero) = c.clock
found c (Load (suc word)) = slice_index c.words word
found c (Store cell value) = 0
found c (Cas cell from to) = c.clock

-- the cells after the operation
abbrev pub cells_after : Cells → Step → Cells
cells_after c (Load cell) = c
cells_after c (Store zero value) = record c { clock = value }
cells_after c (Store (suc word) value) = record c { words = slice_set c.words word value }
cells_after c (Cas cell from to) = record c { clock = if c.clock == from then to else c.clock }
