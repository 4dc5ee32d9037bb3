-- What becomes of an actor as its player's call goes to the engine, and where memory is refused before it does.
use Rattle.std.specs.Prelude.{◌≡◌, ℕ, false, true}
use Rattle.itm_types.specs.declared.call.Call.{Call}
use Rattle.itm_types.specs.Calls.{is_begin}
use Rattle.norec_core.specs.Core.{in_transaction}
use Rattle.norec_core.specs.declared.answer.Next.{Next}
use Rattle.norec_core.specs.Undoing.{after_undoing}
use Rattle.tx_attempts.specs.declared.attempt.Outcome.TheVariants as outcomes
use Rattle.tx_player.specs.Rules.{Rules}
use Rattle.tx_runs.specs.declared.ending.End.TheVariants.{NoMemory}
use Rattle.tx_runs.specs.PlayerRuns.{tally_of}
use Rattle.tx_runs.specs.Tallies.{stand_of, stopped}
use Rattle.world_rules.specs.declared.actor.Status.TheVariants.{Ended}
use Rattle.world_rules.specs.ActionRoom.{IsActing, IsRefused, MayRunOn}
use Rattle.world_rules.specs.Actor.{Actor}
use Rattle.world_rules.specs.Cells.{Cells}
use Rattle.world_rules.specs.LocalWork.{HasUsedUp}
use Rattle.world_rules.specs.Records.{Asks, TakesTo}
use Rattle.world_rules.specs.Rows.{Rows}
use Rattle.world_rules.specs.Sound.{IsAsked, IsKept, IsTied, IsUnasked}
use Rattle.world_rules.specs.Stages.{KeepsOthers}

-- the call went to the engine, which has it in progress or told what came of it
pub record HasAsked {P : Type 0} (rules : Rules P) (clock : ℕ) (r r' : Rows) (old new : Actor P) (call : Call) (what : Next) : Type 0 where
  pub acts : MayRunOn new call what
  pub asked : IsAsked rules old new call what
  pub told : Asks clock r r' old new call what

-- memory was refused to the call, of which the engine knows nothing: outside a transaction it is a begin, and in an irrevocable attempt the room is used up
pub record WasRefused {P : Type 0} (rules : Rules P) (old new : Actor P) (call : Call) : Type 0 where
  pub unasked : IsUnasked rules old new
  pub refused : IsRefused new
  pub grows : in_transaction old.engine ≡ false → is_begin call ≡ true
  pub used : HasUsedUp old

-- so the actor has ended: its attempt is rolled back and told, but for an irrevocable one, of which nothing changes
pub record HasEnded {P : Type 0} (rules : Rules P) (r r' : Rows) (old new : Actor P) : Type 0 where
  pub acts : IsActing new
  pub kept : IsKept (in_transaction new.engine) new
  pub tied : (cells : Cells) → IsTied cells old.engine → IsTied cells new.engine
  pub status : new.status ≡ Ended NoMemory
  pub closed : old.engine.irrevocable ≡ false → in_transaction new.engine ≡ false
  pub engine : new.engine ≡ after_undoing old.engine
  pub stops : old.engine.irrevocable ≡ false → TakesTo (stopped (tally_of old.run) outcomes.NoMemory (stand_of new.engine) NoMemory) r r' old new
  pub same : (new.run.thread ≡ old.run.thread) × (new.run.retries ≡ old.run.retries)
  pub held : old.engine.irrevocable ≡ true → (r'.ended ≡ r.ended) × (new ≡ record old { status = Ended NoMemory })
  pub others : KeepsOthers old r new r'
