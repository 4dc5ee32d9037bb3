-- A block that goes back to its begin, by the fields.
use Rattle.std.specs.Prelude.{◌≡◌, ℕ, ◌+◌, ◌<◌, length, take}
use Rattle.itm_types.specs.KeptBytes.{restored}
use Rattle.undo_log.specs.Rollback.{put_back, kept_of}
use Rattle.nest_frames.specs.Nest.{actions_cancelled, log_of, reads_of, renewed, rows_of}
use Rattle.norec_core.specs.Rows.{row_at}
use Rattle.norec_data.specs.declared.data.Data.{Data}
use Rattle.norec_data.specs.declared.end.CallEnd.{CallEnd}
use Rattle.norec_data.specs.declared.end.CallEnd.TheVariants as ends

-- more than one block is open, and a restart is left
pub record MayRenew (d : Data) (row : ℕ) : Type 0 where
  pub within : 1 < length d.frames.blocks
  pub left : d.restarted < d.limits.restarts
  pub far : row < length d.log.rows
  pub sized : d.frames.size ≡ length d.arena

-- the innermost block is as just after its begin, at the last clock
pub record IsRenewed (old : Data) (row : ℕ) (end : CallEnd) (new : Data) : Type 0 where
  pub end_is : end ≡ ends.Restarted (row_at old.log.rows row).word
  pub blocks : new.frames.blocks ≡ renewed old.frames.blocks
  pub rows : new.frames.writes.rows ≡ rows_of old.frames.blocks
  pub actions : new.frames.actions ≡ actions_cancelled old.frames.blocks old.frames.actions
  pub room : new.frames.room ≡ old.frames.room
  pub size : new.frames.size ≡ old.frames.size
  pub depth : new.frames.depth ≡ old.frames.depth
  pub log : new.log.rows ≡ take (reads_of old.frames.blocks) old.log.rows
  pub arena : new.arena ≡ put_back (log_of old.frames.blocks) old.arena
  pub bytes : new.arena ≡ restored (kept_of old.arena (log_of old.frames.blocks)) old.arena
  pub arena_size : length new.arena ≡ length old.arena
  pub others : new ≡ record old { frames = new.frames; log = new.log; arena = new.arena; snapshot = old.clock; restarted = old.restarted + 1 }
