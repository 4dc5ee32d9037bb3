-- What some events of one actor make of a world.
use Rattle.std.specs.Prelude.{◌≡◌, ℕ, zero, suc, true, false, length, IsSome}
use Rattle.tx_player.specs.Rules.{Rules}
use Rattle.world_rules.specs.Progress.{goes_on_at}
use Rattle.world_rules.specs.World.{World, SameOpening, counted, ending_at, event_result, waits_at}
use Rattle.world_rules.specs.WorldEvents.{Goes, Takes}

-- so many events, up to 2^64 - 1, were told and counted, in a world of the same beginning and actors
pub record TakesSome {P : Type 0} (rules : Rules P) (actor events : ℕ) (old new : World P) : Type 0 where
  pub took : (n : ℕ) × Takes rules actor n old new × (events ≡ counted 0 n)
  pub counts : new.events ≡ counted old.events events
  pub opening : SameOpening old new
  pub actors : length new.actors ≡ length old.actors

-- so many events of the actor in a row, each of which leaves its call a further step to take
abbrev pub TakesOn : {P : Type 0} → Rules P → ℕ → ℕ → World P → World P → Type 0
TakesOn rules actor zero old new = new ≡ old
TakesOn {P} rules actor (suc n) old new = (before : World P) × TakesOn rules actor n old before × (goes_on_at before actor ≡ true) × Goes rules actor before (event_result (ending_at new actor)) new

-- Events of a call in progress were taken, and each but the last left it a further step to take: so the last one alone may have ended an attempt.
pub record EndsLast {P : Type 0} (rules : Rules P) (actor : ℕ) (old new : World P) : Type 0 where
  pub before : World P
  pub goes_on : (n : ℕ) × TakesOn rules actor n old before
  pub over : goes_on_at before actor ≡ false  -- the last one ends the call
  pub opening : SameOpening old before
  pub ended : before.attempts.ended ≡ old.attempts.ended
  pub waits : IsSome (waits_at before actor)
  pub last : Goes rules actor before (event_result (ending_at new actor)) new
