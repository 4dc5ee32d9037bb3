-- Actors that have taken no step.
use Rattle.std.specs.Prelude.{◌≡◌, ℕ, ◌+◌, ◌/◌, ◌<◌, ◌≤◌, false, [], length, replicate, slice_get, None, Some}
use Rattle.norec_core.specs.Core.{Core, opening}
use Rattle.tx_runs.specs.declared.ending.End.TheVariants.{Finished, NoMemory}
use Rattle.world_rules.specs.declared.actor.Status.TheVariants.{Ready}
use Rattle.world_rules.specs.Actor.{Actor}
use Rattle.world_rules.specs.Actors.{limits_of}
use Rattle.world_rules.specs.Cells.{Cells}
use Rattle.world_rules.specs.Headline.{first_of}
use Rattle.world_rules.specs.Rows.{Rows}
use Rattle.world_rules.specs.Runs.{RunsFrom}
use Rattle.world_rules.specs.Sound.{IsSound}
use Rattle.world_rules.specs.Stages.{count_of}
use Rattle.world_rules.specs.Status.{ending_of, is_ready}
use Rattle.world_rules.specs.Tries.{IsBetween}
use Rattle.world_rules.specs.LocalWork.{Works}
use Rattle.itm_types.specs.Memory.{bytes_of, words_of}
use Rattle.itm_types.specs.declared.limits.TheConstants.{MAX_ACTORS}
use Rattle.itm_types.specs.declared.limits.Limits.{Limits}
use Rattle.world_rules.specs.World.{World, attempts_of, ending_at}
use Rattle.tx_player.specs.Rules.{Rules}
use Rattle.tx_runs.specs.Currents.{Outside}

-- the engine of an actor over so many words, with an arena of so many bytes, before its first call
abbrev pub first_engine : ℕ → ℕ → Limits → Core
first_engine words arena limits = opening words (replicate arena 0) limits.patience limits.max_commits limits.depth limits.restarts

-- an actor with these limits, before or at the begin of its first try
pub record IsFirst {P : Type 0} (clock : ℕ) (limits : Limits) (a : Actor P) : Type 0 where
  pub between : IsBetween clock 1 a
  pub limits_are : limits_of a ≡ limits
  pub seen : a.engine.clock ≡ clock

-- the actor at its place, of this player and with this engine, whose local work up to its first step is done; it has ended only where its player has no call
pub record HasStarted {P : Type 0} (rules : Rules P) (clock : ℕ) (engine : Core) (retries place : ℕ) (p : P) (a : Actor P) : Type 0 where
  pub fresh : Actor P
  pub engine_is : fresh.engine ≡ engine
  pub run : fresh.run ≡ record { thread = place; retries = retries; player = p; nth = 1; again = false; current = Outside }
  pub ready : fresh.status ≡ Ready
  pub rows : Rows
  pub rows' : Rows
  pub works : Works rules clock rows fresh rows' a
  pub done : is_ready a.status ≡ false
  pub finishes : ending_of a.status ≡ Some Finished → rules.next_call a.run.player ≡ None
  pub thread : a.run.thread ≡ place

-- an actor that was made over this memory, where attempts may have ended before: none has ended by it
pub record IsNewActor {P : Type 0} (rules : Rules P) (memory : Cells) (arena : ℕ) (limits : Limits) (place : ℕ) (p : P) (old new : Rows) (a : Actor P) : Type 0 where
  pub sound : IsSound rules memory new a
  pub starts : HasStarted rules memory.clock (first_engine (length memory.words) arena limits) limits.retries place p a
  pub first : IsFirst memory.clock limits a
  pub runs : old.ended ≡ [] → RunsFrom rules (first_of p arena) limits.depth (bytes_of memory.words) memory new a
  pub free : a.engine.holds ≡ false
  pub fed : ending_of a.status ≡ Some NoMemory → ⊥
  pub ended : new.ended ≡ old.ended
  pub others : (others : ℕ) → others < MAX_ACTORS → others ≤ old.room → others + count_of a ≤ new.room  -- there is room for the attempts of the others still

-- each actor of a world has, with the world's own limits
abbrev pub AreStarted : {P : Type 0} → Rules P → World P → Type 0
AreStarted {P} rules w = (place : ℕ) (p : P) (a : Actor P) → slice_get w.opening place ≡ Some p → slice_get w.actors place ≡ Some a
    → HasStarted rules w.cells.clock (first_engine (length w.base / 8) w.arena w.limits) w.limits.retries place p a

-- a world before its first event, to which no memory was refused
pub record IsNew {P : Type 0} (rules : Rules P) (w : World P) : Type 0 where
  pub starts : AreStarted rules w
  pub first : (place : ℕ) (a : Actor P) → slice_get w.actors place ≡ Some a → IsFirst w.cells.clock w.limits a
  pub clock : w.cells.clock ≡ 0
  pub words : w.cells.words ≡ words_of w.base
  pub none : attempts_of w ≡ []
  pub events : w.events ≡ 0
  pub actors : length w.actors ≡ length w.opening
  pub fed : (actor : ℕ) → ending_at w actor ≡ Some NoMemory → ⊥
