-- Blocks within a transaction.
use Rattle.std.specs.Prelude.{◌≡◌, ◌⊎◌, ℕ, zero, suc, ◌<◌, ◌≤◌, true, false, List, [], ◌∷◌, ◌++◌, length, map, Some, Result, Ok, Err}
use Rattle.std.specs.Borrow.{MutBor}
use Rattle.std.specs.Fn.{CalledAtMut, Mut}
use Rattle.itm_types.specs.declared.call.Action.{Action}
use Rattle.itm_types.specs.declared.call.Call.{Call}
use Rattle.itm_types.specs.declared.call.Call.TheVariants.{Abort, Begin, Commit}
use Rattle.itm_types.specs.declared.call.Ran.{Ran}
use Rattle.itm_types.specs.declared.call.Refusal.TheVariants.{Outside}
use Rattle.itm_types.specs.declared.call.Reply.TheVariants.{Code}
use Rattle.itm_types.specs.declared.row.LogRow.{LogRow}
use Rattle.user_actions.specs.Actions.{Actions, as_undo}
use Rattle.nest_frames.specs.Nest.{Frame}
use Rattle.norec_core.specs.declared.answer.Answer.{Answer}
use Rattle.norec_core.specs.declared.answer.Answer.TheVariants.{Reply}
use Rattle.norec_core.specs.Core.{Core, in_transaction}
use Rattle.shared_words.specs.Commits.{StartsWith}
use Rattle.call_rules.specs.CallResults.{IsAnswered, Tells}
use Rattle.call_rules.specs.Standing.{Standing, start_of}
use Rattle.itm_runtime.specs.Stops.{GoesOn, answer_of}
use Rattle.itm_runtime.specs.declared.stop.Stop.{Stop}
use Rattle.itm_runtime.specs.declared.stop.Stop.TheVariants.{Refused, Restarted}
use Rattle.transactions.specs.declared.stopped.Stopped.{Stopped}
use Rattle.transactions.specs.declared.stopped.Stopped.TheVariants.{Engine, Cancelled}
use Rattle.transactions.specs.Lent.{Lent}
use Rattle.transactions.specs.Runs.{usual}

-- ## What stays while a block is open

-- the innermost of these blocks has just begun, with these actions registered and these words read
abbrev pub IsFresh : List Frame → Actions → List LogRow → Type 0
IsFresh [] actions log = ⊥
IsFresh (b ∷ bs) actions log = (b.log ≡ []) × (b.commits ≡ length actions.commits) × (b.undos ≡ length actions.undos) × (b.reads ≡ length log)

-- the sizes and the mode are the same, and what was read then is read still
pub record ReadsOn (then now : Core) : Type 0 where
  pub words : now.words ≡ then.words
  pub depth : now.depth ≡ then.depth
  pub mode : now.irrevocable ≡ then.irrevocable
  pub log : StartsWith now.log then.log

-- after those that had come to run these undo actions came to run
abbrev pub CameToRun : List Ran → List Action → List Ran → Type 0
CameToRun then gone now = now ≡ then ++ map as_undo gone

-- the blocks that were open then are the open ones still, each goes back to what it went back to, and actions and reads were added alone
pub record IsWithin (then now : Core) : Type 0 where
  pub blocks : now.blocks ≡ then.blocks
  pub arena : now.arena ≡ then.arena
  pub commits : StartsWith now.actions.commits then.actions.commits
  pub undos : StartsWith now.actions.undos then.actions.undos
  pub ran : (gone : List Action) × CameToRun then.actions.ran gone now.actions.ran
  pub on : ReadsOn then now

-- or no transaction is open
abbrev pub IsWithinStill : Core → Core → Type 0
IsWithinStill then now = IsWithin then now ⊎ (in_transaction now ≡ false)

-- a call ends no block alone that was open: whichever it was that began last, and whenever
abbrev pub StaysWithin : Lent → Lent → Type 0
StaysWithin old new = (then : Core) → IsFresh then.blocks then.actions then.log → IsWithinStill then old.thread.engine → IsWithinStill then new.thread.engine

-- ## What is left of a block that is taken back

-- nothing: the same words are written and with the same values, the same blocks are open, the arena is the same, and so are the actions that are registered. But these undo actions have come to run, and more may have been read
pub record IsTakenBack (old : Standing) (gone : List Action) (new : Standing) : Type 0 where
  pub writes : new.engine.writes ≡ old.engine.writes
  pub blocks : new.engine.blocks ≡ old.engine.blocks
  pub arena : new.engine.arena ≡ old.engine.arena
  pub commits : new.engine.actions.commits ≡ old.engine.actions.commits
  pub undos : new.engine.actions.undos ≡ old.engine.actions.undos
  pub ran : CameToRun old.engine.actions.ran gone new.engine.actions.ran
  pub on : ReadsOn old.engine new.engine

abbrev pub HasGoneBack : Standing → Standing → Type 0
HasGoneBack old new = (gone : List Action) × IsTakenBack old gone new

-- so it is, unless the transaction is over
abbrev pub IsAsBefore : Lent → Lent → Type 0
IsAsBefore old new = in_transaction new.thread.engine ≡ true → HasGoneBack old.thread new.thread

-- ## One run of a block

-- the block began within the transaction
pub record Enters (old began : Lent) : Type 0 where
  pub words : began.words ≡ old.words
  pub revocable : old.thread.engine.irrevocable ≡ false
  pub inside : in_transaction old.thread.engine ≡ true
  pub answered : IsAnswered old.words (start_of old.thread (Begin usual 0) false) (Reply (Code 5)) began.thread.pass began.thread.engine

-- or it did not, and this is why: no transaction is open, or the begin was answered so
pub record EntersNot (old : Lent) (stop : Stop) (new : Lent) : Type 0 where
  pub words : new.words ≡ old.words
  pub revocable : old.thread.engine.irrevocable ≡ false
  pub why : ((in_transaction old.thread.engine ≡ false) × (new.thread ≡ old.thread) × (stop ≡ Refused Outside))
      ⊎ ((in_transaction old.thread.engine ≡ true) × Tells old.words old.thread (Begin usual 0) (answer_of stop) new.thread)

-- what a call came to that gives no value
abbrev pub IsChecked : Answer → Result (Unit {0}) Stop → Type 0
IsChecked answer (Ok done) = GoesOn answer
IsChecked answer (Err stop) = answer_of stop ≡ Some answer

-- the call that ends the innermost block came to this
pub record Leaves (call : Call) (old : Lent) (left : Result (Unit {0}) Stop) (new : Lent) : Type 0 where
  pub words : new.words ≡ old.words
  pub revocable : old.thread.engine.irrevocable ≡ false
  pub answer : Answer
  pub answered : IsAnswered old.words (start_of old.thread call false) answer new.thread.pass new.thread.engine
  pub checked : IsChecked answer left

-- a block's own value or error, where the call that ends it is served
abbrev pub block_told : {R E : Type 0} → Result R E → Result (Unit {0}) Stop → Result (Result R E) Stop
block_told gives (Ok done) = Ok gives
block_told gives (Err stop) = Err stop

-- the block has gone back to its begin
abbrev pub IsToldAgain : {R E : Type 0} → Result (Result R E) Stop → Type 0
IsToldAgain (Err (Restarted clock word)) = Unit {0}
IsToldAgain told = ⊥

-- unless the block gave a value, nothing of it is left; where its body took it back, the transaction goes on
abbrev pub IsUndoneUnless : {R E : Type 0} → Result (Result R E) Stop → Lent → Lent → Type 0
IsUndoneUnless (Ok (Ok value)) old new = Unit {0}
IsUndoneUnless (Ok (Err why)) old new = (in_transaction new.thread.engine ≡ true) × HasGoneBack old.thread new.thread
IsUndoneUnless (Err stop) old new = IsAsBefore old new

-- how a block ends whose body gave this: it commits, or is rolled back
abbrev pub EndsBlockBy : {R E : Type 0} → Result R (Stopped E) → Lent → Result (Result R E) Stop → Lent → Type 0
EndsBlockBy (Ok value) last told new = (left : Result (Unit {0}) Stop) × Leaves Commit last left new × (told ≡ block_told (Ok value) left)
EndsBlockBy (Err (Cancelled why)) last told new = (left : Result (Unit {0}) Stop) × Leaves (Abort false) last left new × (told ≡ block_told (Err why) left)
EndsBlockBy (Err (Engine stop)) last told new = (left : Result (Unit {0}) Stop) × Leaves (Abort false) last left new × (told ≡ Err stop)

module _ {F R E : Type 0} (fn : Mut F (MutBor Lent × Unit {0}) (Result R (Stopped E) × (MutBor Lent × Unit {0}))) where
  -- a body ends no block alone that was open
  abbrev pub KeepsBlocks : Type 0
  KeepsBlocks = (f : F) (x : Lent) (r : Result R (Stopped E)) (f' : F) (x' : Lent) → CalledAtMut fn f x r f' x' → StaysWithin x x'

  -- the block began, its body was run in it, and it ended by what that gave
  pub record HasRunBlock (f : F) (from : Lent) (told : Result (Result R E) Stop) (f' : F) (new : Lent) : Type 0 where
    pub began : Lent
    pub enters : Enters from began
    pub gives : Result R (Stopped E)
    pub last : Lent
    pub runs : CalledAtMut fn f began gives f' last
    pub ends : EndsBlockBy gives last told new

  -- it did not begin, and its body was not run
  pub record HasNotEntered (f : F) (from : Lent) (told : Result (Result R E) Stop) (f' : F) (new : Lent) : Type 0 where
    pub stop : Stop
    pub enters_not : EntersNot from stop new
    pub not_run : f' ≡ f
    pub told_is : told ≡ Err stop

  -- one run of the block is told so, and leaves the body and what was lent so
  abbrev pub TellsBlock : F → Lent → Result (Result R E) Stop → F → Lent → Type 0
  TellsBlock f from told f' new = HasRunBlock f from told f' new ⊎ HasNotEntered f from told f' new

  -- ## Its runs in a row

  -- n runs in order, each on what the one before left: each has gone back to its begin, and the thread reads later than it did
  abbrev pub AreRunAgain : F → Lent → ℕ → F → Lent → Type 0
  AreRunAgain f old zero f' new = (f' ≡ f) × (new ≡ old)
  AreRunAgain f old (suc n) f' new = (g : F) × (mid : Lent) × (told : Result (Result R E) Stop) × AreRunAgain f old n g mid × TellsBlock g mid told f' new × IsToldAgain told × (mid.thread.engine.snapshot < new.thread.engine.snapshot)

  -- after such runs the last one tells this. Where that one has gone back to its begin too, the thread reads no later than it did
  pub record EndsRuns (f : F) (old : Lent) (told : Result (Result R E) Stop) (f' : F) (new : Lent) : Type 0 where
    pub times : ℕ
    pub body : F
    pub from : Lent
    pub before : AreRunAgain f old times body from
    pub last : TellsBlock body from told f' new
    pub over : IsToldAgain told → new.thread.engine.snapshot ≤ from.thread.engine.snapshot
