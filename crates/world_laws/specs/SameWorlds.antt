-- Two worlds that a schedule cannot tell apart.
use Rattle.std.specs.Prelude.{◌≡◌, ℕ, length, Some, slice_get}
use Rattle.world_rules.specs.Actor.{Actor}
use Rattle.world_rules.specs.World.{World, SameOpening, attempts_of, memory_of, ending_at}
use Rattle.world_laws.specs.Alike.{AreAlike}

module _ {P : Type 0} where
  -- all that a world shows
  pub record ShowSame (v w : World P) : Type 0 where
    pub attempts : attempts_of v ≡ attempts_of w
    pub bytes : memory_of v ≡ memory_of w
    pub clock : v.cells.clock ≡ w.cells.clock
    pub events : v.events ≡ w.events
    pub endings : (actor : ℕ) → ending_at v actor ≡ ending_at w actor

  -- and all that decides what comes next; there may be room for more attempts in the one than in the other
  pub record SameWorld (v w : World P) : Type 0 where
    pub opening : SameOpening v w
    pub cells : v.cells ≡ w.cells
    pub events : v.events ≡ w.events
    pub ended : v.attempts.ended ≡ w.attempts.ended
    pub count : length v.actors ≡ length w.actors
    pub actors : (place : ℕ) (a b : Actor P) → slice_get v.actors place ≡ Some a → slice_get w.actors place ≡ Some b → AreAlike a b
