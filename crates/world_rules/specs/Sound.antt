-- What is true of an actor between two events.
use Rattle.std.specs.Prelude.{◌≡◌, ℕ, ◌+◌, ◌-◌, ◌^◌, ◌<◌, ◌≤◌, Bool, true, false, if◌then◌else◌, is_some, length, None, Some}
use Rattle.itm_types.specs.declared.call.Call.{Call}
use Rattle.itm_types.specs.declared.call.Props.{Props}
use Rattle.itm_types.specs.declared.call.Call.TheVariants.{Begin, Commit}
use Rattle.itm_types.specs.declared.step.Step.{Step}
use Rattle.itm_types.specs.Memory.{AllFit}
use Rattle.itm_types.specs.declared.limits.TheConstants.{MAX_RETRIES}
use Rattle.itm_types.specs.Calls.{is_begin, is_abort}
use Rattle.tx_player.specs.Depth.{depth_after}
use Rattle.norec_core.specs.Core.{Core, in_transaction, may_go}
use Rattle.norec_core.specs.Order.{asked}
use Rattle.norec_core.specs.Proceeds.{IsLawful, IsSettled, IsWithin, most}
use Rattle.norec_core.specs.Phases.{Phase}
use Rattle.norec_core.specs.Phases as at
use Rattle.norec_core.specs.declared.answer.Next.{Next}
use Rattle.norec_core.specs.declared.answer.Next.TheVariants.{Step as Asks, Answer as Answers}
use Rattle.norec_core.specs.declared.answer.Answer.{Answer}
use Rattle.norec_core.specs.declared.answer.Answer.TheVariants.{Reply, Committed, Conflict, Restarted, Busy, Full}
use Rattle.tx_attempts.specs.declared.attempt.Attempt.{Attempt}
use Rattle.tx_attempts.specs.declared.attempt.Outcome.TheVariants.{Unfinished}
use Rattle.tx_runs.specs.Nesting.{IsNested, whole}
use Rattle.tx_runs.specs.Answers.{AnswerFits, LeavesRestarts}
use Rattle.tx_runs.specs.Ranks.{restarts_left, rank as rank_of}
use Rattle.world_rules.specs.Actor.{Actor}
use Rattle.world_rules.specs.declared.actor.Status.{Status}
use Rattle.world_rules.specs.declared.actor.Status.TheVariants.{Ready, Waits, Ended}
use Rattle.world_rules.specs.ActionRoom.{IsActing}
use Rattle.world_rules.specs.Cells.{Cells}
use Rattle.world_rules.specs.Records.{Tells}
use Rattle.world_rules.specs.Rows.{Rows}
use Rattle.world_rules.specs.Stages.{KeepsOthers, active_of, count_of, pending_of, with_room}
use Rattle.tx_runs.specs.PlayerRuns.{stage_of}
use Rattle.tx_runs.specs.Tallies.{Stage, outside, begins, within}
use Rattle.world_rules.specs.Status.{is_ready, is_waiting}
use Rattle.tx_player.specs.Rules.{Rules}

-- ## The engine and the cells

-- the engine's own data, as the cells have it
pub record IsTied (cells : Cells) (e : Core) : Type 0 where
  pub words : e.words ≡ length cells.words
  pub fit : AllFit cells.words
  pub late : e.clock ≤ cells.clock
  pub holder : e.holds ≡ true → cells.clock ≡ e.clock + 1
  pub settled : IsSettled e
  pub small : e.restarts < 2 ^ 32

-- an outermost begin that is not refused loads the clock, and one that goes irrevocable takes it as it was just loaded
abbrev pub BeginsAt : Core → Phase → Type 0
BeginsAt e (at.Begin b) = (e.doing ≡ Some (Begin b.props b.room)) × (may_go e.blocks b.props ≡ true)
BeginsAt e (at.Take b) = (e.doing ≡ Some (Begin b.props b.room)) × (may_go e.blocks b.props ≡ true) × (e.clock ≡ e.snapshot)
BeginsAt e stage = ⊥

-- the steps that the call in progress may still ask for
abbrev pub steps_left : Core → ℕ
steps_left e = most e e.doing - e.spent

-- ## What is recorded

module _ {P : Type 0} where
  -- the actor has an open attempt of its own, or none
  abbrev pub HasRow : Bool → Actor P → Type 0
  HasRow false a = active_of a ≡ None
  HasRow true a = (row : Attempt) × (active_of a ≡ Some row) × (row.outcome ≡ Unfinished) × (row.thread ≡ a.run.thread)

  pub record IsKept (is_open : Bool) (a : Actor P) : Type 0 where
    pub row : HasRow is_open a
    pub tried : 0 < a.run.nth
    pub tries : a.run.nth ≤ a.run.retries + 1
    pub retries : a.run.retries ≤ MAX_RETRIES

  -- the attempt that a begin is to open
  pub record IsPending (a : Actor P) (row : Attempt) : Type 0 where
    pub thread : row.thread ≡ a.run.thread
    pub nth : row.nth ≡ a.run.nth
    pub outcome : row.outcome ≡ Unfinished

-- ## Answers

-- of its open attempt it is known where each inner block began, where so many blocks are open
abbrev pub HasPoints : ℕ → Stage → Type 0
HasPoints deep outside = Unit {0}
HasPoints deep (begins row) = Unit {0}
HasPoints deep (within row points) = deep ≡ length points + 1

module _ {P : Type 0} (rules : Rules P) where
  -- the call came from the player, and there is room for what comes of it
  pub record IsInCall (is_open : Bool) (a : Actor P) (call : Call) : Type 0 where
    pub asks : rules.next_call a.run.player ≡ Some call
    pub begins : is_open ≡ false → is_some (pending_of a) ≡ is_begin call
    pub inside : is_open ≡ true → pending_of a ≡ None
    pub opens : (row : Attempt) → pending_of a ≡ Some row → IsPending a row
    pub props : (row : Attempt) (props : Props) (room : ℕ) → pending_of a ≡ Some row → call ≡ Begin props room → row.props ≡ props

  pub record IsWaiting (a : Actor P) (call : Call) (step : Step) : Type 0 where
    pub nested : IsNested rules (in_transaction a.engine) a.run.player
    pub depth : rules.depth a.run.player ≡ length a.engine.blocks
    pub points : HasPoints (rules.depth a.run.player) (stage_of a.run.current)
    pub in_call : IsInCall (in_transaction a.engine) a call
    pub doing : a.engine.doing ≡ Some call
    pub waits : a.engine.waits ≡ Some step
    pub lawful : IsLawful a.engine step
    pub within : IsWithin a.engine
    pub asks : a.engine.waits ≡ asked a.engine
    pub begun : in_transaction a.engine ≡ false → BeginsAt a.engine a.engine.stage

  pub record IsReady (a : Actor P) : Type 0 where
    pub nested : IsNested rules (in_transaction a.engine) a.run.player
    pub depth : rules.depth a.run.player ≡ length a.engine.blocks  -- it has as many open as the engine
    pub points : HasPoints (rules.depth a.run.player) (stage_of a.run.current)
    pub idle : a.engine.waits ≡ None
    pub free : a.engine.holds ≡ a.engine.irrevocable  -- an irrevocable transaction alone holds the clock between two calls
    pub nothing : pending_of a ≡ None

  abbrev pub StatusIs : Actor P → Status → Type 0
  StatusIs a Ready = IsReady a
  StatusIs a (Waits call step) = IsWaiting a call step
  StatusIs a (Ended end) = a.engine.waits ≡ None

  -- between two events, and within local work
  pub record IsSound (cells : Cells) (r : Rows) (a : Actor P) : Type 0 where
    pub tied : IsTied cells a.engine
    pub kept : IsKept (in_transaction a.engine) a
    pub acts : IsActing a
    pub status : StatusIs a a.status
    pub place : count_of a ≤ r.room  -- there is room for its attempt once it ends

  -- ## How much is left to do

  -- falls with each answer; k bounds the calls left, and so many restarts are left
  abbrev pub rank : ℕ → Bool → ℕ → Actor P → ℕ
  rank k is_open left a = rank_of rules a.run.retries a.engine.restarts k is_open a.run.nth left a.run.player

  -- by its own engine
  abbrev pub rank_now : ℕ → Actor P → ℕ
  rank_now k a = rank k (in_transaction a.engine) (restarts_left a.engine) a

  -- less is left to do, where so many restarts were left, and are
  pub record Falls (was now : Bool) (before left : ℕ) (old new : Actor P) : Type 0 where
    pub whole_falls : whole rules now new.run.player ≤ whole rules was old.run.player
    pub rank_falls : (k : ℕ) → whole rules was old.run.player ≤ k → rank k now left new < rank k was before old

  -- ## Answers

  -- the call is answered, and nothing is recorded of that yet; so many restarts were left as it came
  pub record IsAnswered (was : Bool) (before : ℕ) (a : Actor P) (call : Call) (answer : Answer) : Type 0 where
    pub kept : IsKept was a
    pub nested : IsNested rules was a.run.player
    pub in_call : IsInCall was a call
    pub fits : AnswerFits was (rules.depth a.run.player) (in_transaction a.engine) (length a.engine.blocks) call answer
    pub points : HasPoints (rules.depth a.run.player) (stage_of a.run.current)
    pub left : LeavesRestarts was (in_transaction a.engine) before (restarts_left a.engine) answer
    pub idle : a.engine.waits ≡ None
    pub free : a.engine.holds ≡ a.engine.irrevocable
    pub status : a.status ≡ Ready

  -- the actor is between calls, or has ended
  abbrev pub RestsAs : Status → Actor P → Type 0
  RestsAs Ready a = IsReady a
  RestsAs (Waits call step) a = ⊥
  RestsAs (Ended end) a = a.engine.waits ≡ None

  -- the answer is recorded
  pub record IsSettledBy (was : Bool) (before : ℕ) (old new : Actor P) : Type 0 where
    pub engine : new.engine ≡ old.engine
    pub thread : new.run.thread ≡ old.run.thread
    pub retries : new.run.retries ≡ old.run.retries
    pub kept : IsKept (in_transaction new.engine) new
    pub rests : RestsAs new.status new
    pub falls : new.status ≡ Ready → Falls was (in_transaction new.engine) before (restarts_left new.engine) old new

  -- ## A call goes to the engine

  -- the engine went on with the call, and there is room for what comes of it
  pub record IsAsked (old new : Actor P) (call : Call) (what : Next) : Type 0 where
    pub status : new.status ≡ old.status
    pub kept : IsKept (in_transaction old.engine) new
    pub in_call : IsInCall (in_transaction old.engine) new call

  -- memory was refused before the call came to the engine: its attempt may have a place more
  pub record IsUnasked (old new : Actor P) : Type 0 where
    pub actor : new ≡ record old { run = record old.run { current = new.run.current } }
    pub stage : (room : ℕ) × (stage_of new.run.current ≡ with_room room (stage_of old.run.current))

  -- no more is left to do than before
  pub record IsNoMore (old new : Actor P) : Type 0 where
    pub whole_falls : whole rules (in_transaction new.engine) new.run.player ≤ whole rules (in_transaction old.engine) old.run.player
    pub rank_falls : (k : ℕ) → whole rules (in_transaction old.engine) old.run.player ≤ k → rank_now k new ≤ rank_now k old

  -- the same call goes on, with fewer steps left
  pub record GoesOn (old new : Actor P) : Type 0 where
    pub steps : steps_left new.engine < steps_left old.engine
    pub less : IsNoMore old new

  -- what is left to do in local work
  abbrev pub work_left : ℕ → Actor P → ℕ
  work_left k a = if is_ready a.status then rank_now k a + 1 else 0

  -- ## What comes next for a call

  -- nothing is recorded yet of what the engine gave for the call
  abbrev pub IsDue : Bool → ℕ → Actor P → Call → Next → Type 0
  IsDue was before a call (Asks step) = a.status ≡ Ready
  IsDue was before a call (Answers answer) = IsAnswered was before a call answer

  abbrev pub IsDone : Bool → ℕ → Rows → Rows → Actor P → Actor P → Call → Next → Type 0
  IsDone was before r r' old new call (Asks step) = (new ≡ record old { status = Waits call step }) × (r' ≡ r)
  IsDone was before r r' old new call (Answers answer) = IsSettledBy was before old new

  -- it may be recorded: a transaction was open as the call came, or none was, and so many restarts were left
  abbrev pub MayRecord : Actor P → Call → Next → Type 0
  MayRecord a call what = (was : Bool) × (before : ℕ) × IsDue was before a call what

  -- what is recorded of it
  pub record IsRecorded (was : Bool) (before : ℕ) (r : Rows) (old : Actor P) (call : Call) (what : Next) (r' : Rows) (new : Actor P) : Type 0 where
    pub done : IsDone was before r r' old new call what
    pub tells : Tells rules r r' old new call what
    pub others : KeepsOthers old r new r'

  -- and that is so, whichever of the two it was, and however many were left
  abbrev pub WritesDown : Rows → Actor P → Call → Next → Rows → Actor P → Type 0
  WritesDown r old call what r' new = (was : Bool) (before : ℕ) → IsDue was before old call what → IsRecorded was before r old call what r' new

  -- steps of the call in progress that are left, where one is
  abbrev pub call_left : Actor P → ℕ
  call_left a = if is_waiting a.status then steps_left a.engine + 1 else 0

  -- what is left to do until the actor has ended
  abbrev pub run_left : ℕ → Actor P → ℕ
  run_left k a = if is_waiting a.status then rank_now k a + 1 else 0

  -- what an event leaves to do: the same call goes on, or, where it is over, less is left
  pub record HasLess (goes_on : Bool) (old new : Actor P) : Type 0 where
    pub on : goes_on ≡ true → (is_waiting new.status ≡ true) × (steps_left new.engine < steps_left old.engine)
    pub less : is_waiting new.status ≡ true → IsNoMore old new
    pub over : goes_on ≡ false → (k : ℕ) → whole rules (in_transaction old.engine) old.run.player ≤ k → run_left k new < run_left k old
