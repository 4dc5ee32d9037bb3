-- What an actor does with the value of its step, and in the local work that follows, up to its next step or its end.
use Rattle.std.specs.Prelude.{◌≡◌, ℕ, zero, suc, true, false, None, Some}
use Rattle.itm_types.specs.declared.call.Call.{Call}
use Rattle.itm_types.specs.declared.step.Step.{Step}
use Rattle.norec_core.specs.declared.answer.Next.{Next}
use Rattle.norec_core.specs.Moves.{IsResumed}
use Rattle.norec_core.specs.Undoing.{after_undoing}
use Rattle.itm_types.specs.Calls.{is_begin}
use Rattle.norec_core.specs.Core.{in_transaction}
use Rattle.tx_attempts.specs.declared.attempt.Attempt.{Attempt}
use Rattle.tx_attempts.specs.declared.attempt.Outcome.TheVariants as outcomes
use Rattle.tx_runs.specs.declared.ending.End.TheVariants.{Finished, NoMemory}
use Rattle.world_rules.specs.Actor.{Actor}
use Rattle.world_rules.specs.declared.actor.Status.TheVariants.{Ready, Waits, Ended}
use Rattle.world_rules.specs.Cells.{Cells, found}
use Rattle.world_rules.specs.Rows.{Rows}
use Rattle.world_rules.specs.Stages.{active_of, pending_of, with_room}
use Rattle.world_rules.specs.Records.{Asks, TakesTo, Tells, told}
use Rattle.tx_runs.specs.PlayerRuns.{stage_of, tally_of}
use Rattle.tx_runs.specs.Tallies.{stand_of, stopped}
use Rattle.tx_player.specs.Rules.{Rules}

-- it is the same actor, and where its player is to be asked, no attempt is to be opened
pub record SameActor {P : Type 0} (a a' : Actor P) : Type 0 where
  pub thread : a'.run.thread ≡ a.run.thread
  pub retries : a'.run.retries ≡ a.run.retries
  pub nothing : a'.status ≡ Ready → pending_of a' ≡ None

-- an irrevocable attempt has used up the room that it asked for
abbrev pub HasUsedUp : {P : Type 0} → Actor P → Type 0
HasUsedUp a = a.engine.irrevocable ≡ true → (row : Attempt) → active_of a ≡ Some row → row.calls.room ≡ 0

-- its step was done on these cells: its engine is handed what was found, and of what comes the call waits for the next step, or is answered
pub record TakesIn {P : Type 0} (rules : Rules P) (cells : Cells) (r : Rows) (a : Actor P) (r' : Rows) (a' : Actor P) : Type 0 where
  pub call : Call
  pub step : Step
  pub waits : a.status ≡ Waits call step
  pub what : Next
  pub resumed : IsResumed a.engine (found cells step) what a'.engine
  pub recorded : Actor P
  pub tells : Tells rules r r' (record a { engine = a'.engine; status = Ready }) recorded call what
  pub moves : a' ≡ told recorded  -- and its open attempt is told where its engine reads then
  pub same : SameActor a a'

-- it stands where it stood, but for a place more in its attempt
pub record Stays {P : Type 0} (r : Rows) (a : Actor P) (r' : Rows) (a' : Actor P) : Type 0 where
  pub ended : r'.ended ≡ r.ended
  pub run : a'.run ≡ record a.run { current = a'.run.current }
  pub room : ℕ
  pub stage : stage_of a'.run.current ≡ with_room room (stage_of a.run.current)

module _ {P : Type 0} (rules : Rules P) where
  -- its player's next call goes to its engine, and waits for its first step, or is answered at once
  pub record Calls (clock : ℕ) (r : Rows) (a : Actor P) (r' : Rows) (a' : Actor P) : Type 0 where
    pub call : Call
    pub next_is : rules.next_call a.run.player ≡ Some call
    pub what : Next
    pub rows : Rows
    pub asked : Actor P
    pub asks : Asks clock r rows a asked call what
    pub ready : asked.status ≡ Ready
    pub tells : Tells rules rows r' asked a' call what
    pub engine : a'.engine ≡ asked.engine
    pub same : SameActor a a'

  -- its player has no more calls
  pub record Finishes (r : Rows) (a : Actor P) (r' : Rows) (a' : Actor P) : Type 0 where
    pub none : rules.next_call a.run.player ≡ None
    pub actor : a' ≡ record a { status = Ended Finished }
    pub rows : r' ≡ r

  -- memory was refused to its player's next call
  pub record Starves (r : Rows) (a : Actor P) (r' : Rows) (a' : Actor P) : Type 0 where
    pub call : Call
    pub next_is : rules.next_call a.run.player ≡ Some call
    pub grows : in_transaction a.engine ≡ false → is_begin call ≡ true  -- outside a block memory is wanted for a begin alone
    pub used : HasUsedUp a
    pub status : a'.status ≡ Ended NoMemory
    pub same : SameActor a a'
    pub engine : a'.engine ≡ after_undoing a.engine
    pub stops : a.engine.irrevocable ≡ false → TakesTo (stopped (tally_of a.run) outcomes.NoMemory (stand_of a'.engine) NoMemory) r r' a a'
    pub held : a.engine.irrevocable ≡ true → Stays r a r' a'  -- an irrevocable attempt stays unfinished

  -- one of these
  pub data Acts (clock : ℕ) (r : Rows) (a : Actor P) (r' : Rows) (a' : Actor P) : Type 0 where
    calls : Calls clock r a r' a' → Acts clock r a r' a'
    finishes : Finishes r a r' a' → Acts clock r a r' a'
    starves : Starves r a r' a' → Acts clock r a r' a'

  -- so many of them in a row, none of which takes a step on the cells
  abbrev pub ActsOn : ℕ → ℕ → Rows → Actor P → Rows → Actor P → Type 0
  ActsOn clock zero r a r' a' = (r' ≡ r) × (a' ≡ a)
  ActsOn clock (suc n) r a r' a' = (rows : Rows) × (last : Actor P) × ActsOn clock n r a rows last × (last.status ≡ Ready) × Acts clock rows last r' a'

  -- local work at this clock
  abbrev pub Works : ℕ → Rows → Actor P → Rows → Actor P → Type 0
  Works clock r a r' a' = (n : ℕ) × ActsOn clock n r a r' a'
