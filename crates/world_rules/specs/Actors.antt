-- The actors of a world, between two events.
use Rattle.std.specs.Prelude.{◌≡◌, ℕ, ◌%◌, ◌≤◌, true, false, List, length, Some, slice_get}
use Rattle.world_rules.specs.Actor.{Actor}
use Rattle.itm_types.specs.declared.limits.Limits.{Limits}
use Rattle.itm_types.specs.declared.limits.TheConstants.{MAX_ACTORS}
use Rattle.world_rules.specs.Cells.{Cells}
use Rattle.world_rules.specs.Rows.{Rows}
use Rattle.world_rules.specs.Stages.{count_all}
use Rattle.world_rules.specs.Status.{is_ready}
use Rattle.world_rules.specs.Sound.{IsSound}
use Rattle.tx_player.specs.Rules.{Rules}

-- the limits of an actor's transactions
abbrev pub limits_of : {P : Type 0} → Actor P → Limits
limits_of a = record { patience = a.engine.patience; retries = a.run.retries; max_commits = a.engine.max_commits; depth = a.engine.depth; restarts = a.engine.restarts }

module _ {P : Type 0} (rules : Rules P) where
  -- the actor at its place, whose local work is done
  pub record IsActor (cells : Cells) (r : Rows) (place : ℕ) (a : Actor P) : Type 0 where
    pub sound : IsSound rules cells r a
    pub done : is_ready a.status ≡ false
    pub thread : a.run.thread ≡ place

  pub record AreActors (cells : Cells) (r : Rows) (actors : List (Actor P)) : Type 0 where
    pub few : length actors ≤ MAX_ACTORS
    pub each : (place : ℕ) (a : Actor P) → slice_get actors place ≡ Some a → IsActor cells r place a
    pub one : (i j : ℕ) (a b : Actor P) → slice_get actors i ≡ Some a → slice_get actors j ≡ Some b → a.engine.holds ≡ true → b.engine.holds ≡ true → i ≡ j  -- at most one holds the clock
    pub held : cells.clock % 2 ≡ 1 → (place : ℕ) × (a : Actor P) × (slice_get actors place ≡ Some a) × (a.engine.holds ≡ true)  -- and where it is odd one does
    pub room : count_all actors ≤ r.room  -- there is room for the attempts that are under way
