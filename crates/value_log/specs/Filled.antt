-- A list in places that are all filled, as contracts see it, and what holds of its fields.
use Rattle.std.specs.Prelude.{◌≡◌, ◌≤◌, ◌<◌, ◌%◌, ℕ, List, length}
use Rattle.value_log.specs.declared.log.TheConstants.{INLINE_ROWS}
use Rattle.itm_types.specs.declared.row.LogRow.{LogRow}

pub record Filled : Type 0 where
  pub items : List LogRow
  pub capacity : ℕ

-- the rows are the first ones of the places, of which there are as many as there is room for
pub record IsFilled (places : List LogRow) (len capacity : ℕ) : Type 0 where
  pub all : length places ≡ capacity
  pub within : len ≤ capacity
  pub some : 0 < capacity
  pub blocks : capacity % INLINE_ROWS ≡ 0  -- there is room for whole blocks of as many rows as stand in the log itself
