-- The commits of a world, as its attempts and its clock count them.
use Rattle.std.specs.Prelude.{◌≡◌, ℕ, ◌*◌, ◌%◌, ◌≤◌, true, false, Some, slice_get}
use Rattle.world_rules.specs.Actor.{Actor}
use Rattle.world_rules.specs.Actors.{limits_of}
use Rattle.world_rules.specs.Headline.{AreCounted}
use Rattle.world_rules.specs.Rows.{AreEnded}
use Rattle.world_rules.specs.World.{World}
use Rattle.tx_attempts.specs.Outrun.{AreOutrun}

-- the committed attempts, the clock and its holder go together
pub record CommitsInOrder {P : Type 0} (w : World P) : Type 0 where
  pub counted : AreCounted w.cells.clock w.attempts.ended
  pub ended : AreEnded w.attempts.ended
  pub outrun : AreOutrun w.cells.clock w.attempts.ended  -- the clock has moved on from where each conflict had read
  pub few : w.cells.clock ≤ 2 * w.limits.max_commits  -- no more than may
  pub held : w.cells.clock % 2 ≡ 1 → (place : ℕ) × (a : Actor P) × (slice_get w.actors place ≡ Some a) × (a.engine.holds ≡ true)  -- an odd clock is held
  pub free : w.cells.clock % 2 ≡ 0 → (place : ℕ) (a : Actor P) → slice_get w.actors place ≡ Some a → a.engine.holds ≡ false  -- an even one is not
  pub one : (i j : ℕ) (a b : Actor P) → slice_get w.actors i ≡ Some a → slice_get w.actors j ≡ Some b → a.engine.holds ≡ true → b.engine.holds ≡ true → i ≡ j  -- by one actor alone
  pub limits : (place : ℕ) (a : Actor P) → slice_get w.actors place ≡ Some a → limits_of a ≡ w.limits  -- each actor has those of the world
