-- What a world may begin with, and what it and its actors begin as.
use Rattle.std.specs.Prelude.{◌≡◌, ℕ, ◌*◌, ◌%◌, ◌<◌, ◌≤◌, List, [], length, All, None, Some, slice_get}
use Rattle.itm_types.specs.Memory.{AllFit, bytes_of}
use Rattle.itm_types.specs.declared.limits.Limits.{Limits}
use Rattle.itm_types.specs.declared.limits.TheConstants.{MAX_ACTORS, MAX_ARENA, MAX_COMMITS, MAX_MEMORY, MAX_PATIENCE, MAX_RETRIES}
use Rattle.tx_player.specs.Rules.{Rules}
use Rattle.tx_runs.specs.declared.ending.End.TheVariants.{NoMemory}
use Rattle.world_rules.specs.declared.setup.Setup.{Setup}
use Rattle.world_rules.specs.Actor.{Actor}
use Rattle.world_rules.specs.Actors.{AreActors}
use Rattle.world_rules.specs.Cells.{Cells}
use Rattle.world_rules.specs.Headline.{first_of}
use Rattle.world_rules.specs.Rows.{Rows}
use Rattle.world_rules.specs.Runs.{RunsFrom}
use Rattle.world_rules.specs.Stages.{active_of}
use Rattle.world_rules.specs.Starts.{HasStarted, IsFirst, IsNew, first_engine}
use Rattle.world_rules.specs.World.{World, IsSetUp, ending_in, memory_of}

-- a memory of some whole words, arenas and limits, each within its range
pub record MaySetUp (setup : Setup) : Type 0 where
  pub size : (8 ≤ length setup.bytes) × (length setup.bytes ≤ MAX_MEMORY) × (length setup.bytes % 8 ≡ 0)
  pub arena : setup.arena ≤ MAX_ARENA
  pub patience : (0 < setup.limits.patience) × (setup.limits.patience ≤ MAX_PATIENCE)
  pub commits : (0 < setup.limits.max_commits) × (setup.limits.max_commits ≤ MAX_COMMITS)
  pub retries : setup.limits.retries ≤ MAX_RETRIES
  pub depth : 0 < setup.limits.depth

-- some players, no more than there may be actors, and none of them within a block
pub record MayPlay {P : Type 0} (rules : Rules P) (players : List P) : Type 0 where
  pub some : 0 < length players
  pub few : length players ≤ MAX_ACTORS
  pub outside : All (λ p. rules.depth p ≡ 0) players

-- a world of these players, set up like this, before its first event
pub record BeginsAs {P : Type 0} (rules : Rules P) (setup : Setup) (players : List P) (w : World P) : Type 0 where
  pub opening : w.opening ≡ players
  pub memory : memory_of w ≡ setup.bytes
  pub setup_is : IsSetUp setup w
  pub anew : IsNew rules w

-- a memory of some words, with the clock at 0
pub record AreNewCells (cells : Cells) : Type 0 where
  pub size : (0 < length cells.words) × (8 * length cells.words ≤ MAX_MEMORY)
  pub fit : AllFit cells.words
  pub clock : cells.clock ≡ 0

-- an actor for each of these players, which has done its local work up to its first step; none of their attempts has ended or is open, and none was refused memory
pub record HaveAllStarted {P : Type 0} (rules : Rules P) (cells : Cells) (arena : ℕ) (limits : Limits) (players : List P) (rows : Rows) (actors : List (Actor P)) : Type 0 where
  pub count : length actors ≡ length players
  pub sound : AreActors rules cells rows actors
  pub first : (place : ℕ) (a : Actor P) → slice_get actors place ≡ Some a → IsFirst cells.clock limits a
  pub starts : (place : ℕ) (p : P) (a : Actor P) → slice_get players place ≡ Some p → slice_get actors place ≡ Some a
      → HasStarted rules cells.clock (first_engine (length cells.words) arena limits) limits.retries place p a
  pub runs : (place : ℕ) (p : P) (a : Actor P) → slice_get players place ≡ Some p → slice_get actors place ≡ Some a
      → RunsFrom rules (first_of p arena) limits.depth (bytes_of cells.words) cells rows a
  pub none : rows.ended ≡ []
  pub none_open : (place : ℕ) (a : Actor P) → slice_get actors place ≡ Some a → active_of a ≡ None
  pub fed : (place : ℕ) → ending_in actors place ≡ Some NoMemory → ⊥
