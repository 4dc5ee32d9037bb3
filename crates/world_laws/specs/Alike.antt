-- Actors that go on alike.
use Rattle.std.specs.Prelude.{◌≡◌}
use Rattle.world_rules.specs.Actor.{Actor}
use Rattle.tx_runs.specs.PlayerRuns.{tally_of}

-- all but the buffers
pub record AreAlike {P : Type 0} (a b : Actor P) : Type 0 where
  pub thread : a.run.thread ≡ b.run.thread
  pub retries : a.run.retries ≡ b.run.retries
  pub tally : tally_of a.run ≡ tally_of b.run
  pub engine : a.engine ≡ b.engine
  pub status : a.status ≡ b.status
