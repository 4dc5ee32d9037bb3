-- What is true of a world between two events. No contract above cites it.
use Rattle.std.specs.Prelude.{◌≡◌, ℕ, [], length, None, Some, slice_get}
use Rattle.tx_attempts.specs.declared.attempt.Attempt.{Attempt}
use Rattle.world_rules.specs.Actor.{Actor}
use Rattle.world_rules.specs.Rows.{Rows}
use Rattle.world_rules.specs.Stages.{active_of, pending_of}
use Rattle.world_rules.specs.Status.{ending_of}
use Rattle.world_rules.specs.Dates.{IsDated, AreDated}
use Rattle.world_rules.specs.Actors.{AreActors}
use Rattle.world_rules.specs.Commits.{CommitsInOrder}
use Rattle.world_rules.specs.LogAgreement.{AreLaid}
use Rattle.world_rules.specs.Runs.{RunsFrom}
use Rattle.world_rules.specs.Headline.{AreOfActors, first_of}
use Rattle.world_rules.specs.World.{World}
use Rattle.tx_player.specs.Rules.{Rules}
use Rattle.tx_runs.specs.Restarts.{RestartAtMost}

-- the attempt is the actor's present try, and comes next after those that have ended
pub record IsTry {P : Type 0} (retries : ℕ) (r : Rows) (a : Actor P) (row : Attempt) : Type 0 where
  pub thread : row.thread ≡ a.run.thread
  pub nth : row.nth ≡ a.run.nth
  pub dated : IsDated retries r.ended row

-- so is the actor's open one, or the one that is to be opened
pub record IsDatedActor {P : Type 0} (retries : ℕ) (r : Rows) (a : Actor P) : Type 0 where
  pub opened : (row : Attempt) → active_of a ≡ Some row → IsTry retries r a row
  pub next : ending_of a.status ≡ None → (row : Attempt) → pending_of a ≡ Some row → IsTry retries r a row

-- each attempt comes next after those that ended before it
pub record IsDatedWorld {P : Type 0} (w : World P) : Type 0 where
  pub ended : AreDated w.limits.retries [] w.attempts.ended
  pub few : RestartAtMost w.limits.restarts w.attempts.ended
  pub each : (place : ℕ) (a : Actor P) → slice_get w.actors place ≡ Some a → IsDatedActor w.limits.retries w.attempts a

module _ {P : Type 0} (rules : Rules P) where
  -- the headline, with what the actors have not recorded yet
  pub record AreRunning (w : World P) : Type 0 where
    pub laid : AreLaid w.limits.depth w.base w.cells w.attempts
    pub threads : AreOfActors (length w.actors) w.attempts.ended
    pub each : (place : ℕ) (p : P) (a : Actor P) → slice_get w.opening place ≡ Some p → slice_get w.actors place ≡ Some a → RunsFrom rules (first_of p w.arena) w.limits.depth w.base w.cells w.attempts a

  pub record IsWorld (w : World P) : Type 0 where
    pub actors : AreActors rules w.cells w.attempts w.actors
    pub long : length w.actors ≡ length w.opening
    pub commits : CommitsInOrder w
    pub running : AreRunning w
    pub dated : IsDatedWorld w
