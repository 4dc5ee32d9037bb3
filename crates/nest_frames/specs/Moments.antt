-- A nest's own fields: of each open block the moments of the write set, the undo log and the actions at which it began.
use Rattle.std.specs.Prelude.{◌≡◌, ℕ, ◌≤◌, List, [], ◌∷◌, length, take, drop, reverse}
use Rattle.itm_types.specs.declared.call.Props.{Props}
use Rattle.undo_log.specs.Rollback.{Old}
use Rattle.user_actions.specs.Actions.{Actions}
use Rattle.write_set.specs.declared.mark.Place.{Place}
use Rattle.write_set.specs.declared.row.Row.{Row}
use Rattle.write_set.specs.Marks.{Written, IsBy, rows_at, start, unwritten}
use Rattle.nest_frames.specs.declared.moment.Moment.{Moment}
use Rattle.nest_frames.specs.Nest.{Frame}

-- the moments at which the open blocks began, the innermost last
pub record Begins : Type 0 where
  pub items : List Moment
  pub most : ℕ  -- how many there may be

-- there are no more than there may be, and a place for each
pub record HasPlaces (moments most places : ℕ) : Type 0 where
  pub few : moments ≤ most
  pub room : most ≤ places

-- a moment at which there was nothing
abbrev pub at_start : Props → Moment
at_start props = record { props = props; rows = record { here = start; outer = start }; log = 0; actions = record { commits = 0; undos = 0 }; reads = 0 }

-- a block's begin at which there was nothing
abbrev pub forgotten : Moment → Moment
forgotten m = at_start m.props

-- the block that began at this moment, on these rows, and in which these were logged
abbrev pub frame_at : Moment → List Row → List Old → Frame
frame_at m rows log = record { props = m.props; rows = rows; log = log; commits = m.actions.commits; undos = m.actions.undos; reads = m.reads }

-- the blocks of these moments, the innermost first
abbrev pub frames_from : Written → List Old → List Moment → List Frame
frames_from writes olds [] = []
frames_from writes olds (m ∷ ms) = frame_at m (rows_at writes m.rows) (drop m.log olds) ∷ frames_from writes (take m.log olds) ms

-- the blocks of these moments, of which the innermost is the last
abbrev pub frames_of : Written → List Old → List Moment → List Frame
frames_of writes olds moments = frames_from writes olds (reverse moments)

-- the first of these moments, the innermost first, is at this place of the write set, each other at the one from which
-- the one within it began, and none is later than the one within it, or than so many logs
abbrev pub AreUnder : Place → ℕ → List Moment → Type 0
AreUnder place logs [] = Unit {0}
AreUnder place logs (m ∷ ms) = (m.rows.here ≡ place) × IsBy m.rows.outer m.rows.here × (m.log ≤ logs) × AreUnder m.rows.outer m.log ms

-- the outermost block began with nothing written, nothing logged and no action registered, and so it is where no block
-- is open; those that have come to run may be there
abbrev pub BeginEmpty : Written → List Old → Actions → List Moment → Type 0
BeginEmpty writes olds actions [] = (writes ≡ unwritten) × (olds ≡ []) × (actions.commits ≡ []) × (actions.undos ≡ [])
BeginEmpty writes olds actions (m ∷ ms) = (m.rows.here ≡ start) × (m.log ≡ 0) × (m.actions.commits ≡ 0) × (m.actions.undos ≡ 0)

pub record IsSound (writes : Written) (olds : List Old) (actions : Actions) (moments : List Moment) : Type 0 where
  pub under : AreUnder writes.inner (length olds) (reverse moments)
  pub empty : BeginEmpty writes olds actions moments
