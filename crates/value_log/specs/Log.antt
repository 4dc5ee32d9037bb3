-- A value log, as contracts see it.
use Rattle.std.specs.Prelude.{◌≡◌, ◌%◌, ℕ, List}
use Rattle.value_log.specs.declared.log.TheConstants.{INLINE_ROWS}
use Rattle.itm_types.specs.declared.row.LogRow.{LogRow}

pub record Log : Type 0 where
  pub rows : List LogRow  -- the words that were read, each with the value found, the oldest first
  pub room : ℕ  -- how many rows can join with no memory taken

-- a log with so many rows has room for one more, by their number alone: they do not fill whole blocks
abbrev pub HasRoomBehind : ℕ → Type 0
HasRoomBehind n = n % INLINE_ROWS ≡ 0 → n ≡ 0
