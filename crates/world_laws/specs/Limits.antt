-- Worlds and players within the limits of a run.
use Rattle.std.specs.Prelude.{◌≡◌, suc, ◌≤◌, length, Some}
use Rattle.itm_types.specs.declared.call.Call.{Call}
use Rattle.itm_types.specs.declared.limits.TheConstants.{MAX_ARENA, MAX_RETRIES}
use Rattle.world_rules.specs.World.{World}
use Rattle.tx_history.specs.Bounds.{HasArenaWidth, IsMemorySize}
use Rattle.tx_history.specs.declared.history.Version.{Version}
use Rattle.tx_history.specs.Versions.{MayRestart, thread_limit}
use Rattle.tx_player.specs.Rules.{Rules}

-- the world's sizes and counts are those that a run may have, and that this version tells of
pub record IsLimitedWorld {P : Type 0} (version : Version) (w : World P) : Type 0 where
  pub memory : IsMemorySize version (length w.base)
  pub arena : w.arena ≤ MAX_ARENA
  pub retries : w.limits.retries ≤ MAX_RETRIES
  pub actors : length w.opening ≤ suc (thread_limit version)
  pub restarts : MayRestart version w.limits.restarts

-- a player accesses its arena in 1, 2, 4 or 8 bytes
abbrev pub HasArenaWidths : {P : Type 0} → Rules P → Type 0
HasArenaWidths {P} rules = (p : P) (c : Call) → rules.next_call p ≡ Some c → HasArenaWidth c
