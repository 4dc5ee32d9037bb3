-- What the attempts, the player and the counts are once an answer is recorded.
use Rattle.std.specs.Prelude.{◌≡◌, ℕ, ◌/◌, ◌++◌, Option, None, Some, unwrap_or}
use Rattle.itm_types.specs.declared.call.Call.{Call}
use Rattle.norec_core.specs.Moves.{IsCalled}
use Rattle.norec_core.specs.declared.answer.Answer.{Answer}
use Rattle.norec_core.specs.declared.answer.Next.{Next}
use Rattle.norec_core.specs.declared.answer.Next.TheVariants.{Step as Steps, Answer as Answers}
use Rattle.norec_core.specs.Core.{irrevocable_room}
use Rattle.tx_attempts.specs.declared.attempt.Attempt.{Attempt}
use Rattle.tx_player.specs.Rules.{Rules}
use Rattle.tx_runs.specs.declared.ending.End.{End}
use Rattle.tx_runs.specs.PlayerRuns.{stage_of, tally_of}
use Rattle.tx_runs.specs.Tallies.{Taken, begins_again, came, stand_of, took_in}
use Rattle.world_rules.specs.Actor.{Actor}
use Rattle.world_rules.specs.declared.actor.Status.{Status}
use Rattle.world_rules.specs.declared.actor.Status.TheVariants.{Ready, Waits, Ended}
use Rattle.world_rules.specs.Rows.{Rows}
use Rattle.world_rules.specs.Stages.{active_of, moved_to}

-- ## An answer

-- the player's next call may be made, or that was the end
abbrev pub status_after : Option End → Status
status_after None = Ready
status_after (Some end) = Ended end

-- the answer is taken in, from the one actor and the attempts that have ended to the others: this comes of it
pub record TakesTo {P : Type 0} (taken : Taken P) (r r' : Rows) (old new : Actor P) : Type 0 where
  pub tally : tally_of new.run ≡ taken.tally
  pub ended : r'.ended ≡ r.ended ++ taken.over
  pub status : new.status ≡ status_after taken.end

module _ {P : Type 0} (rules : Rules P) where
  -- the actor has the engine that answered
  pub record Records (r r' : Rows) (old new : Actor P) (call : Call) (answer : Answer) : Type 0 where
    pub takes : TakesTo (took_in rules old.run.retries (tally_of old.run) call answer (stand_of new.engine)) r r' old new

  -- of what the engine gave for the call: it waits for the step, or its answer is recorded
  abbrev pub Tells : Rows → Rows → Actor P → Actor P → Call → Next → Type 0
  Tells r r' old new call (Steps step) = (new ≡ record old { status = Waits call step }) × (r' ≡ r)
  Tells r r' old new call (Answers answer) = Records r r' old new call answer

-- its open attempt is told where its engine reads, if it has one
abbrev pub told : {P : Type 0} → Actor P → Actor P
told a = record a { run = record a.run { current = moved_to (a.engine.snapshot / 2) a.run.current } }

-- its open attempt stands where its engine reads
abbrev pub ReadsAt : {P : Type 0} → Actor P → Type 0
ReadsAt a = (row : Attempt) → active_of a ≡ Some row → row.at ≡ a.engine.snapshot / 2

-- ## A call goes to the engine

-- the call went to the engine, and nothing is recorded yet
pub record Asks {P : Type 0} (clock : ℕ) (r r' : Rows) (old new : Actor P) (call : Call) (what : Next) : Type 0 where
  pub stage : stage_of new.run.current ≡ (came old.run.thread (clock / 2) old.engine.arena (unwrap_or (irrevocable_room old.engine call) 0) (tally_of old.run) call).stage
  pub run : new.run ≡ record old.run { current = new.run.current }
  pub ended : r'.ended ≡ r.ended
  pub called : IsCalled old.engine call (begins_again (stage_of old.run.current) old.run.again call) what new.engine
