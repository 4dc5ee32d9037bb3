-- The open blocks of a transaction, as contracts see them.
use Rattle.std.specs.Prelude.{◌≡◌, ℕ, Bool, false, if◌then◌else◌, List, [], ◌∷◌, ◌++◌, length, take}
use Rattle.std.specs.List.{list_any}
use Rattle.itm_types.specs.declared.call.Props.{Props}
use Rattle.itm_types.specs.KeptBytes.{restored}
use Rattle.undo_log.specs.Rollback.{Old, put_back, kept_of}
use Rattle.write_set.specs.declared.row.Row.{Row}
use Rattle.user_actions.specs.Actions.{Actions, committed, cut_back}
use Rattle.write_set.specs.Marks.{Written}

-- an open block
pub record Frame : Type 0 where
  pub props : Props
  pub rows : List Row  -- the write set's rows as at its begin
  pub log : List Old  -- what was logged in it and in the blocks that closed within it, the oldest first
  pub commits : ℕ  -- how many commit actions were registered at its begin
  pub undos : ℕ  -- and how many undo actions
  pub reads : ℕ  -- and how many words had been read

pub record Nest : Type 0 where
  pub writes : Written
  pub size : ℕ  -- how many bytes the arena has
  pub depth : ℕ  -- how many blocks may be open at once
  pub blocks : List Frame  -- the innermost first
  pub actions : Actions  -- those that are registered, and those that have come to run
  pub room : ℕ  -- how many more commit actions are registered with no memory

-- a block that begins on these rows, with these actions registered and so many words read
abbrev pub begun : Props → List Row → Actions → ℕ → Frame
begun props rows actions reads = record { props = props; rows = rows; log = []; commits = length actions.commits; undos = length actions.undos; reads = reads }

-- what was logged in the innermost block
abbrev pub log_of : List Frame → List Old
log_of [] = []
log_of (b ∷ bs) = b.log

-- the rows as at the begin of the innermost block
abbrev pub rows_of : List Frame → List Row
rows_of [] = []
rows_of (b ∷ bs) = b.rows

-- how many words had been read at the begin of the innermost block
abbrev pub reads_of : List Frame → ℕ
reads_of [] = 0
reads_of (b ∷ bs) = b.reads

-- whether the innermost of these blocks has the property that it is not cancelled
abbrev pub keeps_innermost : List Frame → Bool
keeps_innermost [] = false
keeps_innermost (b ∷ bs) = b.props.no_abort

-- whether a cancel of the innermost block, or of all of them, is one of a block that is not to be cancelled
abbrev pub is_kept : List Frame → Bool → Bool
is_kept blocks outer = if outer then list_any (λ (b : Frame). b.props.no_abort) blocks else keeps_innermost blocks

-- whether one of these blocks has the property that the transaction does not become irrevocable within it
abbrev pub stays_revocable : List Frame → Bool
stays_revocable blocks = list_any (λ (b : Frame). b.props.no_irrevocable) blocks

-- the blocks once these were logged in the innermost one
abbrev pub logged : List Frame → List Old → List Frame
logged [] olds = []
logged (b ∷ bs) olds = record b { log = b.log ++ olds } ∷ bs

-- the blocks once the innermost one has closed: the one around it has what was logged in it
abbrev pub closed : List Frame → List Frame
closed [] = []
closed (b ∷ []) = []
closed (b ∷ p ∷ bs) = record p { log = p.log ++ b.log } ∷ bs

-- the blocks once the innermost one is back at its begin and goes on from there: nothing is logged in it
abbrev pub renewed : List Frame → List Frame
renewed [] = []
renewed (b ∷ bs) = record b { log = [] } ∷ bs

-- the arena once every block is rolled back, the innermost first
abbrev pub arena_back : List Frame → List ℕ → List ℕ
arena_back [] arena = arena
arena_back (b ∷ bs) arena = arena_back bs (put_back b.log arena)

-- the same, by what each block keeps of the arena
abbrev pub arena_restored : List Frame → List ℕ → List ℕ
arena_restored [] arena = arena
arena_restored (b ∷ bs) arena = arena_restored bs (restored (kept_of arena b.log) arena)

-- a block of an irrevocable transaction, which goes back to nothing
abbrev pub made_irrevocable : Frame → Frame
made_irrevocable b = record { props = b.props; rows = []; log = []; commits = 0; undos = 0; reads = 0 }

-- the actions once the innermost block has closed: with the outermost one the commit actions run
abbrev pub actions_closed : List Frame → Actions → Actions
actions_closed [] actions = actions
actions_closed (b ∷ []) actions = committed actions
actions_closed (b ∷ p ∷ bs) actions = actions

-- once the innermost block is rolled back: its undo actions run, and its commit actions never do
abbrev pub actions_cancelled : List Frame → Actions → Actions
actions_cancelled [] actions = actions
actions_cancelled (b ∷ bs) actions = cut_back b.commits b.undos actions

-- once every block is rolled back, the innermost first
abbrev pub actions_back : List Frame → Actions → Actions
actions_back [] actions = actions
actions_back (b ∷ bs) actions = actions_back bs (cut_back b.commits b.undos actions)

-- as many bytes are in the arena, as many blocks may be open, and as many commit actions are registered with no memory
pub record KeepsLimits (old new : Nest) : Type 0 where
  pub size : new.size ≡ old.size
  pub depth : new.depth ≡ old.depth
  pub room : new.room ≡ old.room

-- the innermost block is rolled back: what is written is what was at its begin, its undo actions run and its commit actions never do, and the arena has what the block kept of it
pub record RollsBack (old new : Nest) (before after : List ℕ) : Type 0 where
  pub limits : KeepsLimits old new
  pub rows : new.writes.rows ≡ rows_of old.blocks
  pub saves : new.writes.saves ≡ take old.writes.inner.saves old.writes.saves
  pub actions : new.actions ≡ actions_cancelled old.blocks old.actions
  pub arena_size : length after ≡ length before
  pub arena : after ≡ put_back (log_of old.blocks) before
  pub restored : after ≡ restored (kept_of before (log_of old.blocks)) before
