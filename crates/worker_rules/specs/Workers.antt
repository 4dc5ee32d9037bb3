-- A worker between two calls, and one that has stopped.
use Rattle.std.specs.Prelude.{◌≡◌, ◌⊎◌, ℕ, ◌+◌, ◌/◌, ◌^◌, ◌<◌, ◌≤◌, Bool, true, false, List, length, Option, None, Some, unwrap_or, Vec, vec_len, vec_capacity}
use Rattle.std.specs.declared.alloc.Global.{Global}
use Rattle.itm_types.specs.declared.limits.TheConstants.{MAX_RETRIES}
use Rattle.itm_types.specs.Calls.{is_begin}
use Rattle.itm_types.specs.declared.call.Call.{Call}
use Rattle.itm_types.specs.declared.call.Call.TheVariants.{Begin}
use Rattle.itm_types.specs.declared.call.Ran.{Ran}
use Rattle.norec_core.specs.declared.answer.Answer.{Answer}
use Rattle.norec_core.specs.Core.{Core, in_transaction, irrevocable_room}
use Rattle.norec_core.specs.Proceeds.{MayStarve}
use Rattle.norec_core.specs.RestartingCalls.{arena_ahead}
use Rattle.user_actions.specs.Actions.{total}
use Rattle.shared_words.specs.declared.view.View.{View}
use Rattle.shared_words.specs.InGlobal.{Words}
use Rattle.shared_words.specs.Passes.{Owns, view_of}
use Rattle.call_rules.specs.CallResults.{IsAnswered}
use Rattle.call_rules.specs.Standing.{start_of}
use Rattle.call_rules.specs.Ties.{Stands}
use Rattle.tx_attempts.specs.declared.attempt.Attempt.{Attempt}
use Rattle.tx_runs.specs.declared.ending.End.{End}
use Rattle.tx_runs.specs.Currents.{Current, Outside, Begins, Within}
use Rattle.tx_runs.specs.OpenAttempts.{HasPlacesFor, LacksPlaces, promised, told_in}
use Rattle.tx_runs.specs.PlayerRuns.{MayStop, MayTell, stage_of, tally_of}
use Rattle.tx_runs.specs.Ranks.{Falls, restarts_left}
use Rattle.tx_runs.specs.Tallies.{begins_again, outside, stand_of}
use Rattle.tx_player.specs.Rules.{Rules}
use Rattle.worker_rules.specs.Worker.{Worker}
use Rattle.worker_rules.specs.Accounts.{Account, account_of, told}
use Rattle.worker_rules.specs.Calls.{IsMade, StopsAs, StopsAt, asked}
use Rattle.worker_rules.specs.Gates.{Gating, IsLet, call_number}
use Rattle.worker_rules.specs.Positions.{AreFew, AreOver}
use Rattle.worker_rules.specs.Progress.{Course, IsRunning}

-- the limits of a thread, which no call changes
pub record Bounds : Type 0 where
  pub max_commits : ℕ
  pub patience : ℕ
  pub depth : ℕ

abbrev pub bounds_of : Core → Bounds
bounds_of e = record { max_commits = e.max_commits; patience = e.patience; depth = e.depth }

-- ## Room

-- there is a place for the open attempt among those that have ended, and in it for each action that may still run
abbrev pub HasPlaces : Core → Vec Attempt Global → Current → Type 0
HasPlaces e ended Outside = Unit {0}
HasPlaces e ended (Begins o) = Unit {0}
HasPlaces e ended (Within o) = (vec_len ended < vec_capacity ended) × (total e.actions ≤ o.ends)

-- what is told of the open attempt's actions has come to run
abbrev pub IsToldBy : List Ran → Current → Type 0
IsToldBy due Outside = Unit {0}
IsToldBy due (Begins o) = Unit {0}
IsToldBy due (Within o) = told_in o.row ≤ length due

-- how many actions the open attempt tells
abbrev pub told_by : Current → Option ℕ
told_by Outside = None
told_by (Begins o) = None
told_by (Within o) = Some (told_in o.row)

-- and for what comes of this call, which asks for so many more
abbrev pub IsReadyFor : Core → Call → ℕ → Vec Attempt Global → Current → Type 0
IsReadyFor e call ahead ended Outside = Unit {0}
IsReadyFor e call ahead ended (Begins o) = (vec_len ended < vec_capacity ended) × (ahead ≤ o.ends) × (ahead ≤ o.cancels)
IsReadyFor e call ahead ended (Within o) = (vec_len ended < vec_capacity ended) × (total e.actions ≤ o.ends) × HasPlacesFor call (total e.actions) ahead (arena_ahead e call) o

-- the open attempt lacks room for what comes of this call, or more is asked for
abbrev pub LacksFor : Core → Call → Current → Type 0
LacksFor e call Outside = Unit {0}
LacksFor e call (Begins o) = Unit {0}
LacksFor e call (Within o) = LacksPlaces call (total e.actions) (unwrap_or (irrevocable_room e call) 0) (arena_ahead e call) o

-- each call that the open attempt has room for finds a place for a block that it begins
abbrev pub HasBlockPlaces : Current → Type 0
HasBlockPlaces Outside = Unit {0}
HasBlockPlaces (Begins o) = Unit {0}
HasBlockPlaces (Within o) = 0 < o.row.calls.room → length o.points + o.row.calls.room ≤ o.deep

-- and so does each after the next one, once that has come
abbrev pub KeepsBlockPlaces : Current → Type 0
KeepsBlockPlaces Outside = Unit {0}
KeepsBlockPlaces (Begins o) = o.row.calls.room ≤ o.deep
KeepsBlockPlaces (Within o) = 1 < o.row.calls.room → length o.points + o.row.calls.room ≤ o.deep

-- each commit action that an irrevocable transaction may still register with no memory finds a place in the open attempt
abbrev pub HasActionPlaces : Core → Current → Type 0
HasActionPlaces e Outside = Unit {0}
HasActionPlaces e (Begins o) = Unit {0}
HasActionPlaces e (Within o) = e.irrevocable ≡ true → 0 < e.room → (total e.actions + e.room ≤ o.ends) × (total e.actions + e.room ≤ o.cancels)

-- the open attempt has room for no more calls than may be between two calls
abbrev pub IsPromised : Core → Current → Type 0
IsPromised e Outside = Unit {0}
IsPromised e (Begins o) = Unit {0}
IsPromised e (Within o) = o.row.calls.room ≤ promised e

-- a begin is told whether an earlier try of its block got past it, where it is to open an attempt
abbrev pub again_for : Current → Bool → Call → Bool
again_for (Begins o) again (Begin props room) = again
again_for (Begins o) again call = false
again_for Outside again call = false
again_for (Within o) again call = false

-- the same open attempt, perhaps with more room; or none is open still, though one may be about to be opened
abbrev pub IsRoomier : Current → Current → Type 0
IsRoomier (Within o) (Within o') = (o'.row ≡ record o.row { calls = record o.row.calls { room = o'.row.calls.room } }) × (o'.points ≡ o.points)
IsRoomier Outside Outside = Unit {0}
IsRoomier Outside (Begins o') = Unit {0}
IsRoomier old new = ⊥

module _ {P : Type 0} where
  abbrev pub view_in : Worker P → View
  view_in w = view_of w.thread.pass

  -- it is the worker that it was, on words that own its pass
  pub record IsSame (words : Words) (c : Course P) (b : Bounds) (w : Worker P) : Type 0 where
    pub own : Owns words w.thread.pass
    pub stands : Stands (view_in w) w.thread.engine
    pub number : w.run.thread ≡ c.number
    pub retries : w.run.retries ≡ c.retries
    pub few : c.retries ≤ MAX_RETRIES
    pub limit : c.restarts < 2 ^ 32
    pub over : AreOver w.ended.items
    pub below : AreFew b.max_commits w.ended.items
    pub bounds : bounds_of w.thread.engine ≡ b

  -- there is room for what comes of its player's next call, and nothing else has changed
  pub record IsPrepared (words : Words) (rules : Rules P) (old : Worker P) (call : Call) (new : Worker P) : Type 0 where
    pub came : tally_of new.run ≡ asked words rules old.run.thread old.run.retries old.thread (account_of old) call
    pub ready : IsReadyFor old.thread.engine call (unwrap_or (irrevocable_room old.thread.engine call) 0) new.ended new.run.current
    pub blocks : KeepsBlockPlaces new.run.current
    pub actions : HasActionPlaces old.thread.engine new.run.current
    pub thread : new.run.thread ≡ old.run.thread
    pub retries : new.run.retries ≡ old.run.retries
    pub ended : new.ended.items ≡ old.ended.items

  -- there was no memory for that
  pub record IsUnprepared (old : Worker P) (call : Call) (new : Worker P) : Type 0 where
    pub roomier : IsRoomier old.run.current new.run.current
    pub roomy : HasPlaces old.thread.engine new.ended new.run.current
    pub ended : new.ended.items ≡ old.ended.items
    pub begins : stage_of old.run.current ≡ outside → is_begin call ≡ true

module _ {P : Type 0} (rules : Rules P) where
  pub record IsWorking (words : Words) (c : Course P) (b : Bounds) (w : Worker P) : Type 0 where
    pub same : IsSame words c b w
    pub running : IsRunning rules c (view_in w) w.thread.engine (account_of w)
    pub roomy : HasPlaces w.thread.engine w.ended w.run.current
    pub blocks : HasBlockPlaces w.run.current
    pub actions : HasActionPlaces w.thread.engine w.run.current
    pub promises : IsPromised w.thread.engine w.run.current

  -- its player's next call is answered, and nothing has come of that yet
  pub record IsAsked (words : Words) (c : Course P) (b : Bounds) (old : Worker P) (call : Call) (answer : Answer) (new : Worker P) : Type 0 where
    pub works : IsWorking words c b old
    pub asks : rules.next_call old.run.player ≡ Some call
    pub prepared : IsPrepared words rules old call new
    pub answered : IsAnswered words (start_of old.thread call (begins_again (stage_of old.run.current) old.run.again call)) answer new.thread.pass new.thread.engine

  -- memory was refused to its player's next call, and nothing has come of that yet
  pub record IsHungry (words : Words) (c : Course P) (b : Bounds) (old : Worker P) (call : Call) (new : Worker P) : Type 0 where
    pub works : IsWorking words c b old
    pub asks : rules.next_call old.run.player ≡ Some call
    pub thread : new.thread ≡ old.thread
    pub run : new.run ≡ record old.run { current = new.run.current }
    pub unprepared : IsUnprepared old call new
    pub short : LacksFor old.thread.engine call old.run.current ⊎ MayStarve old.thread.engine call

  -- it goes on after its player's next call, with less left to do
  pub record GoesOn (words : Words) (old new : Worker P) : Type 0 where
    pub made : IsMade words rules old.run.thread old.run.retries (account_of old) old.thread None (account_of new) new.thread
    pub works : (c : Course P) (b : Bounds) → IsWorking words c b old → IsWorking words c b new
    pub falls : Falls rules old.run.retries old.thread.engine.restarts (in_transaction old.thread.engine) (in_transaction new.thread.engine) old.run.nth new.run.nth (restarts_left old.thread.engine) (restarts_left new.thread.engine) old.run.player new.run.player
    pub thread : new.run.thread ≡ old.run.thread
    pub retries : new.run.retries ≡ old.run.retries

  -- it has stopped, and what it leaves to be told is what this account does
  pub record IsStopped (words : Words) (c : Course P) (b : Bounds) (shuts : Bool) (end : End) (old new : Worker P) : Type 0 where
    pub same : IsSame words c b new
    pub left : Account P
    pub stops : StopsAs words rules old.run.thread old.run.retries shuts end (account_of old) old.thread left new.thread
    pub over : AreOver left.ended
    pub below : AreFew b.max_commits left.ended
    pub told_is : told (account_of new) (stand_of new.thread.engine) ≡ told left (stand_of new.thread.engine)
    pub may_stop : MayStop (new.thread.engine.snapshot / 2) new.thread.engine.actions.ran new.run.current
    pub may_tell : MayTell new.run.current new.ended

  -- it has stopped at its call with this number, which the gate shut out or let through
  pub record IsStoppedAt (words : Words) (c : Course P) (b : Bounds) (gate : Gating) (call : ℕ) (end : End) (old new : Worker P) : Type 0 where
    pub stopped : IsStopped words c b (gate.shuts old.run.thread call) end old new
    pub stops : StopsAt words rules old.run.thread old.run.retries gate call end (account_of old) old.thread stopped.left new.thread

  -- it goes on after its next call, which was let through and is counted, or it has stopped at it
  abbrev pub GoesOnOrStopsAt : Words → Gating → Worker P → Option End → Worker P → Type 0
  GoesOnOrStopsAt words gate old None new = GoesOn words old new × IsLet gate old.run.thread old.calls old.thread × (new.calls ≡ call_number (old.calls + 1))
  GoesOnOrStopsAt words gate old (Some end) new = (c : Course P) (b : Bounds) → IsWorking words c b old → IsStoppedAt words c b gate old.calls end old new

  -- it goes on, or it has stopped
  abbrev pub GoesOnOrStops : Words → Bool → Worker P → Option End → Worker P → Type 0
  GoesOnOrStops words shuts old None new = GoesOn words old new
  GoesOnOrStops words shuts old (Some end) new = (c : Course P) (b : Bounds) → IsWorking words c b old → IsStopped words c b shuts end old new
