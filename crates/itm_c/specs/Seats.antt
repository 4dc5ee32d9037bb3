-- How words are opened, and how threads enter and leave.
use Rattle.std.specs.Prelude.{◌≡◌, ◌-◌, [], ◌∷◌, length, drop, slice_index, Option, None, Some}
use Rattle.std.specs.Arc.{arc_value}
use Rattle.itm_types.specs.declared.limits.TheConstants.{MAX_COMMITS, MAX_DEPTH}
use Rattle.norec_core.specs.Core.{opening as fresh}
use Rattle.shared_words.specs.Good.{Ends}
use Rattle.shared_words.specs.Passes.{view_of, cells_of, place_of}
use Rattle.shared_words.specs.Views.{opening, cut_left, cut_right}
use Rattle.shared_words.specs.declared.view.View.{View}
use Rattle.shared_words.specs.Steps.{Joined}
use Rattle.itm_c.specs.Kept.{IsSeated, IsTied}
use Rattle.itm_c.specs.declared.cells.Cells.{Cells}
use Rattle.itm_c.specs.declared.client.Client.{Client}
use Rattle.itm_c.specs.declared.kept.Kept.{Kept}
use Rattle.itm_c.specs.declared.root.Root.{Root}

-- the words are those of the cells that follow the clock, where they lie, and no step has been made
pub record IsOpened (cells : Cells) (r : Root) : Type 0 where
  pub seated : IsSeated r
  pub words : 0 ∷ (view_of r.pass).base ≡ cells.items
  pub first : view_of r.pass ≡ opening (view_of r.pass).base
  pub count : cells_of (arc_value r.words) ≡ length cells.items
  pub place : place_of (arc_value r.words) ≡ cells.at

-- the words are the same and have one seat less, and the thread has it: it is over them, knows of the commits that the words knew of, and is outside a transaction
pub record Enters (old : Root) (new : Root) (c : Client) : Type 0 where
  pub kept : arc_value new.words ≡ arc_value old.words
  pub tied : IsTied c
  pub words : arc_value c.words ≡ arc_value old.words
  pub left : view_of new.pass ≡ cut_left (view_of old.pass)
  pub seat : view_of c.thread.pass ≡ cut_right (view_of old.pass)
  pub engine : c.thread.engine ≡ fresh (cells_of (arc_value old.words) - 1) [] 64 MAX_COMMITS MAX_DEPTH 0

-- the words have the thread's seat again, and what it knew
pub record Leaves (old : Root) (c : Client) (new : Root) : Type 0 where
  pub seated : IsSeated new
  pub words : arc_value new.words ≡ arc_value old.words
  pub joined : Joined (view_of old.pass) (view_of c.thread.pass) (view_of new.pass)

-- no thread is in any more, and the cells are what all commits have left, where they lie
pub record Closes (r : Root) (cells : Cells) : Type 0 where
  pub whole : (view_of r.pass).share ≡ 128
  pub place : cells.at ≡ place_of (arc_value r.words)
  pub count : length cells.items ≡ cells_of (arc_value r.words)
  pub ends : Ends (view_of r.pass) (slice_index cells.items 0) (drop 1 cells.items)

-- no step was made with a pass, and it has all its seats: where one was cut from it and joined again, `shorter` alone tells of that
abbrev pub IsUnused : View → View → Type 0
IsUnused old new = new ≡ record old { shorter = new.shorter }

-- no thread has entered, no seat is lost, and no step was made
abbrev pub IsRefused : Root → Root → Option Kept → Type 0
IsRefused old new (Some k) = Unit {0}
IsRefused old new None = (arc_value new.words ≡ arc_value old.words) × IsUnused (view_of old.pass) (view_of new.pass)
