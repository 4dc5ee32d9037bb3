-- What is shown of a run, by what is chosen.
use Rattle.std.specs.Prelude.{ℕ, Bool, true, false, List, Option, None, Some}
use Rattle.std.specs.List.{range_with_len}
use Rattle.arrayvec.specs.ArrayVec.{ArrayVec}
use Rattle.itmsteps.specs.declared.choice.Choice.{Choice}
use Rattle.step_picture.specs.Marks.{marks_of}
use Rattle.step_picture.specs.Picture.{picture_text}
use Rattle.step_table.specs.declared.view.View.{View}
use Rattle.step_table.specs.Rows.{Row}
use Rattle.step_table.specs.Table.{table_text}

-- the threads that are named, or all of so many
abbrev pub columns_of : Option (ArrayVec ℕ) → ℕ → ArrayVec ℕ
columns_of None threads = record { items = range_with_len 0 threads }
columns_of (Some named) threads = named

abbrev pub view_of : Choice → ℕ → View
view_of c threads = record { columns = columns_of c.threads threads; from = c.from; to = c.to }

-- the picture of these events, or their table
abbrev pub shown_text : Bool → View → List Row → List ℕ
shown_text true view rows = picture_text view.columns.items (marks_of view rows)
shown_text false view rows = table_text view rows
