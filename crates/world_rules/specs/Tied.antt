-- What ties the engines and the words of a world to its attempts.
use Rattle.std.specs.Prelude.{◌≡◌, ℕ, ◌/◌, true, false, length, Some, slice_get}
use Rattle.norec_core.specs.Core.{in_transaction}
use Rattle.norec_core.specs.Proceeds.{backed}
use Rattle.world_rules.specs.Actor.{Actor}
use Rattle.tx_attempts.specs.Attempts.{alone, alone_whole}
use Rattle.tx_attempts.specs.declared.attempt.Attempt.{Attempt}
use Rattle.world_rules.specs.ActionRoom.{PromisesAs}
use Rattle.world_rules.specs.PlayerRooms.{TellsRoom}
use Rattle.world_rules.specs.Status.{ending_of}
use Rattle.tx_runs.specs.declared.ending.End.TheVariants.{NoMemory}
use Rattle.world_rules.specs.Rows.{AreOpen}
use Rattle.world_rules.specs.Stages.{active_of, opens}
use Rattle.world_rules.specs.Headline.{bytes_at, first_of}
use Rattle.world_rules.specs.World.{World, attempts_of}
use Rattle.world_rules.specs.Memories.{words_at}
use Rattle.world_rules.specs.HeldAttempts.{StandsIn}
use Rattle.world_rules.specs.Sound.{HasRow}
use Rattle.world_rules.specs.Runs.{IsRun}
use Rattle.tx_player.specs.Rules.{Rules}

module _ {P : Type 0} (rules : Rules P) where
  -- each actor's engine stands where its player's run has come to, and the words are those that the commits left, with a holder's finished stores over them
  pub record AreTied (w : World P) : Type 0 where
    pub players : (place : ℕ) (p : P) (a : Actor P) → slice_get w.opening place ≡ Some p → slice_get w.actors place ≡ Some a → IsRun rules (first_of p w.arena) w.limits.depth w.base (w.cells.clock / 2) w.attempts a  -- its player stands where its attempts have led it
    pub each : length w.actors ≡ length w.opening  -- an actor for each player
    pub threads : (place : ℕ) (a : Actor P) → slice_get w.actors place ≡ Some a → a.run.thread ≡ place
    pub rows : (place : ℕ) (a : Actor P) → slice_get w.actors place ≡ Some a → HasRow (in_transaction a.engine) a  -- it has an open attempt where its transaction is open
    pub open_rows : AreOpen (opens w.actors)
    pub reads : (place : ℕ) (a : Actor P) (row : Attempt) → slice_get w.actors place ≡ Some a → active_of a ≡ Some row → row.at ≡ a.engine.snapshot / 2  -- an open one is at half its engine's snapshot
    -- its player alone is then irrevocable where its engine is
    pub modes : (place : ℕ) (a : Actor P) (row : Attempt) → slice_get w.actors place ≡ Some a → active_of a ≡ Some row
        → (alone w.limits.depth (bytes_at w.limits.depth w.base (attempts_of w) row.at) row).irrevocable ≡ a.engine.irrevocable
    pub irrevocable : (place : ℕ) (a : Actor P) → slice_get w.actors place ≡ Some a → a.engine.irrevocable ≡ true → a.engine.holds ≡ true  -- and then holds the clock
    pub holder : (place : ℕ) (a : Actor P) → slice_get w.actors place ≡ Some a → a.engine.holds ≡ true
        → (row : Attempt) × (active_of a ≡ Some row) × (row.at ≡ w.cells.clock / 2)  -- who holds it has an open one, at the last position
    pub held : (place : ℕ) (a : Actor P) → slice_get w.actors place ≡ Some a → a.engine.holds ≡ true → a.engine.irrevocable ≡ false → w.cells.words ≡ backed a.engine (words_at w.limits.depth w.base (attempts_of w) (w.cells.clock / 2))
    pub rooms : (place : ℕ) (a : Actor P) (row : Attempt) → slice_get w.actors place ≡ Some a → active_of a ≡ Some row → PromisesAs a.engine a.status row  -- between two calls an attempt promises its calls no more places than its engine has room, and none before it is irrevocable
    -- where a player tells its room truly, its irrevocable attempt never wants memory
    pub fed : (place : ℕ) (p : P) (a : Actor P) → slice_get w.opening place ≡ Some p → slice_get w.actors place ≡ Some a → TellsRoom rules p → ending_of a.status ≡ Some NoMemory → a.engine.irrevocable ≡ false
    -- of an irrevocable attempt, with what its calls have stored, and what the call in progress has; the engine's actions are those that had run in blocks that ran again, too
    pub stored : (place : ℕ) (a : Actor P) (row : Attempt) → slice_get w.actors place ≡ Some a → active_of a ≡ Some row → a.engine.irrevocable ≡ true
        → StandsIn w.limits.depth a.engine.waits a.engine.doing a.engine w.cells.words (alone_whole w.limits.depth (bytes_at w.limits.depth w.base (attempts_of w) (w.cells.clock / 2)) row)
