-- What no step changes in an engine.
use Rattle.std.specs.Prelude.{◌≡◌, false}
use Rattle.norec_core.specs.Core.{Core}

-- the arena too, but for a copy to it in an irrevocable transaction
pub record Keeps (old new : Core) : Type 0 where
  pub arena : old.irrevocable ≡ false → new.arena ≡ old.arena
  pub words : new.words ≡ old.words
  pub patience : new.patience ≡ old.patience
  pub max_commits : new.max_commits ≡ old.max_commits
  pub restarts : new.restarts ≡ old.restarts
  pub restarted : new.restarted ≡ old.restarted
  pub depth : new.depth ≡ old.depth
  pub writes : new.writes ≡ old.writes
  pub blocks : new.blocks ≡ old.blocks
  pub actions : new.actions ≡ old.actions
  pub irrevocable : new.irrevocable ≡ old.irrevocable
  pub room : new.room ≡ old.room
  pub doing : new.doing ≡ old.doing
  pub again : new.again ≡ old.again
  pub entry : new.entry ≡ old.entry
