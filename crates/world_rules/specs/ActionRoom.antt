-- The actions of an actor's transaction: which of them have run, and the places for those that are to run. And the places for its calls, and for a block of it that runs again.
use Rattle.std.specs.Prelude.{◌≡◌, ℕ, ◌+◌, ◌-◌, ◌<◌, ◌≤◌, max, if◌then◌else◌, Bool, true, false, List, [], ◌∷◌, length, is_some, Option, None, Some}
use Rattle.itm_types.specs.Calls.{is_abort, is_begin, registered_by}
use Rattle.user_actions.specs.Actions.{total}
use Rattle.norec_core.specs.Core.{Core, in_transaction}
use Rattle.norec_core.specs.Restarts.{IsRestart}
use Rattle.itm_types.specs.declared.call.Call.{Call}
use Rattle.norec_core.specs.declared.answer.Answer.{Answer as Given}
use Rattle.norec_core.specs.declared.answer.Next.{Next}
use Rattle.norec_core.specs.declared.answer.Next.TheVariants.{Step, Answer}
use Rattle.tx_attempts.specs.declared.attempt.Attempt.{Attempt}
use Rattle.tx_runs.specs.CallRooms.{HasRoomIn, is_held, may_go_back, wanted}
use Rattle.tx_runs.specs.OpenAttempts.{IsBacked, promised, told_in}
use Rattle.tx_runs.specs.PlayerRuns.{MayGoBack, stage_of}
use Rattle.tx_runs.specs.Savepoints.{AreSavepoints}
use Rattle.tx_runs.specs.Tallies.{Stage, outside, begins, within, stand_of}
use Rattle.tx_runs.specs.Currents.{Current, Begins, Outside, Within}
use Rattle.world_rules.specs.Actor.{Actor}
use Rattle.world_rules.specs.declared.actor.Status.{Status}
use Rattle.world_rules.specs.declared.actor.Status.TheVariants.{Ready, Waits, Ended}
use Rattle.tx_runs.specs.declared.savepoint.Savepoint.{Savepoint}
use Rattle.world_rules.specs.Stages.{active_of, pending_of, ends_in, cancels_in}

-- the call in progress is no cancel, and registers nothing
abbrev pub NoCancel : Status → Type 0
NoCancel Ready = Unit {0}
NoCancel (Waits call step) = (is_abort call ≡ false) × (is_some (registered_by call) ≡ false)
NoCancel (Ended end) = Unit {0}

-- there is room for one more block of the open attempt that runs again, from an arena of so many bytes, where so many actions may have run
abbrev pub BacksIn : ℕ → ℕ → Current → Type 0
BacksIn bytes actions Outside = Unit {0}
BacksIn bytes actions (Begins o) = Unit {0}
BacksIn bytes actions (Within o) = IsBacked bytes actions o

-- these open inner blocks, the innermost first, began with no more actions told than so many, and each with no more than the one within it
abbrev pub BeganWith : ℕ → List Savepoint → Type 0
BeganWith told [] = Unit {0}
BeganWith told (s ∷ outer) = (s.ran ≤ told) × BeganWith s.ran outer

-- so did those of the open attempt, with no more than are told now; they are those that its calls say
abbrev pub BeganIn : Stage → Type 0
BeganIn outside = Unit {0}
BeganIn (begins row) = Unit {0}
BeganIn (within row points) = AreSavepoints points row.calls.list × BeganWith (length row.ran) points

-- how many inner blocks the call opens at most
abbrev pub opened_by : Call → ℕ
opened_by call = if is_begin call then 1 else 0

-- each call that the list has a place for may begin a block, and so may the call in progress: there is a place for where it began
abbrev pub NestsBy : Call → Current → Type 0
NestsBy call Outside = Unit {0}
NestsBy call (Begins o) = o.row.calls.room ≤ o.deep
NestsBy call (Within o) = length o.points + o.row.calls.room + opened_by call ≤ o.deep + 1

-- likewise between two calls
abbrev pub NestsReady : Current → Type 0
NestsReady Outside = Unit {0}
NestsReady (Begins o) = Unit {0}
NestsReady (Within o) = length o.points + o.row.calls.room ≤ o.deep

abbrev pub NestsAs : Status → Current → Type 0
NestsAs Ready c = NestsReady c
NestsAs (Waits call step) c = NestsBy call c
NestsAs (Ended end) c = Unit {0}

-- in a call the list has a place for it and for what it asks for, and promises no more, if that is not what it had
pub record HasPlace (e : Core) (row : Attempt) : Type 0 where
  pub least : wanted e < row.calls.room
  pub most : row.calls.room ≤ max (promised e) (wanted e + 1)

-- how many places it promises at most: a place for the call in progress, or for the one to which memory was refused, may come to those of before
abbrev pub PromisesAs : Core → Status → Attempt → Type 0
PromisesAs e Ready row = row.calls.room ≤ promised e
PromisesAs e (Waits call step) row = HasPlace e row
PromisesAs e (Ended end) row = row.calls.room ≤ max (promised e) 1

module _ {P : Type 0} where
  -- while some of the room of such a transaction is left, there is a place for each of its actions and for as many more as the room has
  abbrev pub HasRoomFor : Core → Actor P → Type 0
  HasRoomFor e a = HasRoomIn e (ends_in a.run.current) (cancels_in a.run.current)

  -- the actor's open attempt, if it has one, tells of no more blocks that ran again than have gone back
  abbrev pub HasFew : Actor P → Type 0
  HasFew a = (row : Attempt) → active_of a ≡ Some row → length row.restarts ≤ a.engine.restarted

  -- and of as many actions as have come to run, as run or as undone
  abbrev pub HasAll : Actor P → Type 0
  HasAll a = (row : Attempt) → active_of a ≡ Some row → told_in row ≡ length a.engine.actions.ran

  -- or of fewer
  abbrev pub HasFirst : Actor P → Type 0
  HasFirst a = (row : Attempt) → active_of a ≡ Some row → told_in row ≤ length a.engine.actions.ran

  -- all that are registered have a place where the attempt ends
  abbrev pub HasPlaces : Actor P → Type 0
  HasPlaces a = (row : Attempt) → active_of a ≡ Some row → total a.engine.actions ≤ ends_in a.run.current

  -- those that a cancel has run have one where it does not end
  abbrev pub HasCancelPlaces : Actor P → Type 0
  HasCancelPlaces a = in_transaction a.engine ≡ true → (row : Attempt) → active_of a ≡ Some row → told_in row < length a.engine.actions.ran → length a.engine.actions.ran ≤ cancels_in a.run.current

  -- none has run in an attempt that is to be opened, which has no call, and no block that ran again
  abbrev pub StartsEmpty : Actor P → Type 0
  StartsEmpty a = (row : Attempt) → pending_of a ≡ Some row → (row.ran ≡ []) × (row.restarts ≡ []) × (row.calls.list ≡ [])

  -- there are none where the transaction has just begun
  abbrev pub BeginsEmpty : Actor P → Type 0
  BeginsEmpty a = in_transaction a.engine ≡ true → active_of a ≡ None → total a.engine.actions ≡ 0

  -- the list of the actor's open attempt promises no more places than that
  abbrev pub IsPromised : Actor P → Status → Type 0
  IsPromised a status = (row : Attempt) → active_of a ≡ Some row → PromisesAs a.engine status row

  -- an attempt that is to be opened has the room that its begin asks for, and so does the engine of any call
  pub record HasAsked (a : Actor P) : Type 0 where
    pub pending : (row : Attempt) → pending_of a ≡ Some row → row.calls.room ≡ wanted a.engine
    pub backed : wanted a.engine ≤ a.engine.room

  abbrev pub AsksAs : Actor P → Status → Type 0
  AsksAs a Ready = Unit {0}
  AsksAs a (Waits call step) = HasAsked a
  AsksAs a (Ended end) = Unit {0}

  -- where the innermost block may run again by the call in progress, there is room for what is told of that
  abbrev pub RenewsAs : Actor P → Status → Type 0
  RenewsAs a Ready = Unit {0}
  RenewsAs a (Waits call step) = may_go_back a.engine ≡ true → BacksIn (length a.engine.arena) (total a.engine.actions) a.run.current
  RenewsAs a (Ended end) = Unit {0}

  -- between two calls, or in one
  pub record IsActing (a : Actor P) : Type 0 where
    pub all : HasAll a
    pub few : HasFew a
    pub places : HasPlaces a
    pub pending : StartsEmpty a
    pub status : NoCancel a.status
    pub room : HasRoomFor a.engine a
    pub backed : IsPromised a a.status
    pub asks : AsksAs a a.status
    pub nests : NestsAs a.status a.run.current
    pub began : BeganIn (stage_of a.run.current)
    pub renews : RenewsAs a a.status

  -- memory was refused to a call of it
  pub record IsRefused (a : Actor P) : Type 0 where
    pub all : HasAll a
    pub few : HasFew a
    pub places : HasPlaces a
    pub nothing : pending_of a ≡ None
    pub room : HasRoomFor a.engine a
    pub began : BeganIn (stage_of a.run.current)
    pub backed : (row : Attempt) → active_of a ≡ Some row → a.engine.irrevocable ≡ true → row.calls.room ≤ max (promised a.engine) 1

  -- the call is answered, and nothing is recorded of that yet
  pub record MayRun (a : Actor P) (call : Call) (answer : Given) : Type 0 where
    pub first : HasFirst a
    pub few : HasFew a
    pub fewer : IsRestart answer → (row : Attempt) → active_of a ≡ Some row → length row.restarts < a.engine.restarted
    pub places : HasPlaces a
    pub cancel_places : (IsRestart answer → ⊥) → HasCancelPlaces a
    pub pending : StartsEmpty a
    pub anew : BeginsEmpty a
    pub room : HasRoomFor a.engine a
    pub over : in_transaction a.engine ≡ false → is_held a.engine ≡ false
    pub still : is_held a.engine ≡ true → HasAll a
    pub place : (row : Attempt) → active_of a ≡ Some row → 0 < row.calls.room
    pub adds : (IsRestart answer → ⊥) → in_transaction a.engine ≡ true → (row : Attempt) → active_of a ≡ Some row → row.calls.room - 1 ≤ promised a.engine
    pub opens : in_transaction a.engine ≡ true → (row : Attempt) → pending_of a ≡ Some row → row.calls.room ≤ promised a.engine
    pub nests : NestsBy call a.run.current
    pub began : BeganIn (stage_of a.run.current)
    pub renews : IsRestart answer → MayGoBack (stand_of a.engine) a.run.current

  -- what the engine gave for the call is to be recorded
  abbrev pub MayRunOn : Actor P → Call → Next → Type 0
  MayRunOn a call (Step step) = IsActing (record a { status = Waits call step })
  MayRunOn a call (Answer answer) = MayRun a call answer
