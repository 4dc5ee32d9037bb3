-- The runs of a body as transactions.
use Rattle.std.specs.Prelude.{◌≡◌, ◌⊎◌, ℕ, ◌+◌, ◌≤◌, Bool, true, false, List, Option, None, Some, Result, Ok, Err, IfErr, IfOk}
use Rattle.std.specs.Borrow.{MutBor}
use Rattle.std.specs.Fn.{CalledAtMut, Mut}
use Rattle.itm_types.specs.declared.call.Call.TheVariants.{Begin, Commit}
use Rattle.itm_types.specs.declared.call.Props.{Props}
use Rattle.norec_core.specs.declared.answer.Answer.{Answer}
use Rattle.norec_core.specs.declared.answer.Answer.TheVariants as answers
use Rattle.norec_core.specs.Core.{in_transaction}
use Rattle.norec_core.specs.Undoing.{after_undoing}
use Rattle.shared_words.specs.InGlobal.{Words}
use Rattle.shared_words.specs.Passes.{view_of}
use Rattle.call_rules.specs.CallResults.{IsAnswered, IsThreadStarved}
use Rattle.call_rules.specs.Served.{mine_if}
use Rattle.call_rules.specs.Standing.{Standing, start_of}
use Rattle.itm_runtime.specs.Stops.{GoesOn, answer_of}
use Rattle.call_rules.specs.Ties.{Stands}
use Rattle.itm_runtime.specs.declared.stop.Stop.{Stop}
use Rattle.itm_runtime.specs.declared.stop.Stop.TheVariants as stops
use Rattle.transactions.specs.declared.failed.Failed.{Failed}
use Rattle.transactions.specs.declared.failed.Failed.TheVariants as failures
use Rattle.transactions.specs.declared.tried.Done.{Done as Value}
use Rattle.transactions.specs.declared.tried.Tried.{Tried}
use Rattle.transactions.specs.declared.tried.Tried.TheVariants.{Done, Failed as Fails, Conflict, Busy}
use Rattle.transactions.specs.declared.stopped.Stopped.{Stopped}
use Rattle.transactions.specs.declared.stopped.Stopped.TheVariants.{Engine, Cancelled}
use Rattle.transactions.specs.Lent.{Lent, IsKept, IsLeft, looks_of, mine_of, seen_of}

-- a block that may be cancelled, and that does not go irrevocable
abbrev pub usual : Props
usual = record { no_abort = false; no_irrevocable = false; goes_irrevocable = false }

-- ## What a try is told as

-- a commit, where the body gave this value
abbrev pub commit_told : {R E : Type 0} → R → Answer → Tried R E
commit_told value (answers.Committed at wrote) = Done (record { value = value; at = at; wrote = wrote })
commit_told value (answers.Full at) = Fails failures.Full
commit_told value (answers.Reply reply) = Conflict
commit_told value (answers.Conflict clock word) = Conflict
commit_told value (answers.Restarted clock word) = Conflict
commit_told value (answers.Busy clock) = Conflict

-- a body that takes its transaction back, where that was open still
abbrev pub cancel_told : {R E : Type 0} → E → Bool → Tried R E
cancel_told why true = Fails (failures.Cancelled why)
cancel_told why false = Conflict

-- a transaction that does not go on, where it was open still, or did not begin
abbrev pub stop_told : {R E : Type 0} → Stop → Bool → Tried R E
stop_told (stops.Refused refusal) true = Fails (failures.Refused refusal)
stop_told (stops.Refused refusal) false = Conflict
stop_told (stops.Conflict clock word) was_open = Conflict
stop_told (stops.Restarted clock word) was_open = Conflict
stop_told (stops.Busy clock) was_open = Busy
stop_told (stops.Full at) was_open = Fails failures.Full
stop_told stops.Memory was_open = Fails failures.Memory

-- such a try has looked at the clock, and has not committed
abbrev pub HasLooked : {R E : Type 0} → Tried R E → Type 0
HasLooked (Done done) = ⊥
HasLooked (Fails (failures.Cancelled why)) = Unit {0}
HasLooked (Fails why) = ⊥
HasLooked Conflict = Unit {0}
HasLooked Busy = Unit {0}

-- the pass's own commits after a try
abbrev pub mine_then : {R E : Type 0} → List ℕ → Tried R E → List ℕ
mine_then mine (Done done) = mine_if done.wrote mine done.at
mine_then mine _ = mine

-- and after all tries
abbrev pub mine_left : {R E : Type 0} → List ℕ → Result (Value R) (Failed E) → List ℕ
mine_left mine (Ok done) = mine_if done.wrote mine done.at
mine_left mine (Err why) = mine

-- the body took the last one back
abbrev pub IsCancelled : {R E : Type 0} → Result (Value R) (Failed E) → Type 0
IsCancelled (Ok done) = ⊥
IsCancelled (Err (failures.Cancelled why)) = Unit {0}
IsCancelled (Err why) = ⊥

-- what all tries of a body leave that hands back what it is lent
pub record LeavesLent {R E : Type 0} (old : Lent) (tries : ℕ) (result : Result (Value R) (Failed E)) (new : Lent) : Type 0 where
  pub left : IsLeft (mine_left (mine_of old) result) old new  -- the words are the same, and the pass's own commits are those told
  pub late : IfOk result (λ done. seen_of old ≤ done.at)  -- the position told is no less than the number of the commits that the pass had seen before
  pub tried : IfErr result (λ why. why ≡ failures.Tries → looks_of old + tries ≤ looks_of new)  -- for want of tries it gives up after so many looks at the clock, one for each

-- ## One try

-- the thread's transaction, where one is open, is rolled back
pub record IsGivenUp (old : Lent) (new : Standing) : Type 0 where
  pub pass : new.pass ≡ old.thread.pass
  pub engine : new.engine ≡ after_undoing old.thread.engine

-- outside a transaction a begin was answered so that the transaction goes on
pub record HasBegun (before : Standing) (again : Bool) (answer : Answer) (began : Lent) : Type 0 where
  pub stood : Stands (view_of before.pass) before.engine
  pub outside : in_transaction before.engine ≡ false
  pub answered : IsAnswered began.words (start_of before (Begin usual 0) again) answer began.thread.pass began.thread.engine
  pub goes_on : GoesOn answer

-- or so that it does not, or memory was refused to it
abbrev pub BeginTold : Standing → Bool → Option Answer → Lent → Type 0
BeginTold before again (Some answer) new = IsAnswered new.words (start_of before (Begin usual 0) again) answer new.thread.pass new.thread.engine
BeginTold before again None new = IsThreadStarved new.words before (Begin usual 0) new.thread

-- what is left once the commit was answered so: one that is done leaves the thread so
abbrev pub LeftBy : Answer → Lent → Standing → Type 0
LeftBy (answers.Committed at wrote) then new = new ≡ then.thread
LeftBy _ then new = (new ≡ then.thread) ⊎ IsGivenUp then new

-- the commit of a body's transaction, where it gave this value: what has not committed is rolled back
pub record HasEnded {R E : Type 0} (last : Lent) (value : R) (told : Tried R E) (new : Standing) : Type 0 where
  pub stood : Stands (view_of last.thread.pass) last.thread.engine
  pub answer : Answer
  pub then : Lent
  pub answered : IsAnswered last.words (start_of last.thread Commit false) answer then.thread.pass then.thread.engine
  pub told_is : told ≡ commit_told value answer
  pub left : LeftBy answer then new

-- how a try ends whose body gave this
abbrev pub EndsBy : {R E : Type 0} → Result R (Stopped E) → Lent → Tried R E → Standing → Type 0
EndsBy (Ok value) last told new = HasEnded last value told new
EndsBy (Err (Engine why)) last told new = IsGivenUp last new × (told ≡ stop_told why (in_transaction last.thread.engine))
EndsBy (Err (Cancelled why)) last told new = IsGivenUp last new × (told ≡ cancel_told why (in_transaction last.thread.engine))

module _ {F R E : Type 0} (fn : Mut F (MutBor Lent × Unit {0}) (Result R (Stopped E) × (MutBor Lent × Unit {0}))) where
  -- a body hands back what it is lent
  abbrev pub KeepsLent : Type 0
  KeepsLent = (f : F) (x : Lent) (r : Result R (Stopped E)) (f' : F) (x' : Lent) → CalledAtMut fn f x r f' x' → IsKept x x'

  -- and is left as it was itself
  abbrev pub KeepsBody : Type 0
  KeepsBody = (f : F) (x : Lent) (r : Result R (Stopped E)) (f' : F) (x' : Lent) → CalledAtMut fn f x r f' x' → f' ≡ f

  -- a transaction began on what was lent, the body was run in it, and it ended by what that gave
  pub record HasRun (f : F) (old : Lent) (again : Bool) (told : Tried R E) (f' : F) (new : Lent) : Type 0 where
    pub answer : Answer
    pub began : Lent
    pub begins : HasBegun old.thread again answer began
    pub here : began.words ≡ old.words
    pub gives : Result R (Stopped E)
    pub last : Lent
    pub runs : CalledAtMut fn f began gives f' last
    pub ends : EndsBy gives last told new.thread
    pub stays : new.words ≡ last.words

  -- none began, and the body was not run
  pub record HasNotBegun (f : F) (old : Lent) (again : Bool) (told : Tried R E) (f' : F) (new : Lent) : Type 0 where
    pub stop : Stop
    pub then : Lent
    pub begins : BeginTold old.thread again (answer_of stop) then
    pub here : then.words ≡ old.words
    pub given_up : IsGivenUp then new.thread
    pub stays : new.words ≡ then.words
    pub not_run : f' ≡ f
    pub told_is : told ≡ stop_told stop true

  -- one try of the body, `again` where an earlier one came to a conflict, is told so, and leaves the body and what was lent so
  abbrev pub IsTry : F → Lent → Bool → Tried R E → F → Lent → Type 0
  IsTry f old again told f' new = HasRun f old again told f' new ⊎ HasNotBegun f old again told f' new

  -- some try was told so and left the thread so: of this body where bodies are left as they were, and on these words where bodies hand back what they are lent
  pub record Tells (first : F) (words : Words) (told : Tried R E) (new : Standing) : Type 0 where
    pub body : F
    pub same : KeepsBody → body ≡ first
    pub old : Lent
    pub here : KeepsLent → old.words ≡ words
    pub again : Bool
    pub body' : F
    pub words' : Words
    pub tried : IsTry body old again told body' (record { words = words'; thread = new })

  -- what all tries come to: what is told of the last one
  abbrev pub ComesTo : F → Words → Result (Value R) (Failed E) → Standing → Type 0
  ComesTo first words (Ok done) new = Tells first words (Done done) new
  ComesTo first words (Err failures.Tries) new = Unit {0}
  ComesTo first words (Err why) new = Tells first words (Fails why) new
