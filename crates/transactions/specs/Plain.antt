-- What the calls of a transaction come to, whatever blocks of it were taken back: those of the plain machine, on the bytes that some first commits have left.
use Rattle.std.specs.Prelude.{◌≡◌, ℕ, suc, ◌<◌, ◌≤◌, Bool, true, false, List, [], ◌∷◌, ◌++◌, length, map, Result, Ok, Err}
use Rattle.std.specs.Borrow.{MutBor}
use Rattle.std.specs.Fn.{CalledAtMut, Mut}
use Rattle.itm_types.specs.declared.call.Action.{Action}
use Rattle.itm_types.specs.declared.call.Call.{Call}
use Rattle.itm_types.specs.declared.call.Call.TheVariants.{Begin, Commit, Abort, Mode}
use Rattle.itm_types.specs.declared.call.Reply.{Reply as Replied}
use Rattle.itm_types.specs.declared.call.Reply.TheVariants.{Code, Done}
use Rattle.itm_types.specs.Memory.{bytes_of}
use Rattle.itm_model.specs.Machine.{after, opened}
use Rattle.itm_model.specs.Runs.{replies, state_after}
use Rattle.itm_model.specs.State.{State}
use Rattle.user_actions.specs.Actions.{as_undo}
use Rattle.norec_core.specs.declared.answer.Answer.{Answer}
use Rattle.norec_core.specs.declared.answer.Answer.TheVariants.{Reply}
use Rattle.norec_core.specs.Core.{in_transaction}
use Rattle.shared_words.specs.InGlobal.{Words}
use Rattle.shared_words.specs.Passes.{view_of}
use Rattle.shared_words.specs.declared.view.View.{View}
use Rattle.call_rules.specs.CallResults.{IsAnswered}
use Rattle.call_rules.specs.Standing.{Standing, start_of}
use Rattle.call_rules.specs.Ties.{memory_of}
use Rattle.transactions.specs.declared.stopped.Stopped.{Stopped}
use Rattle.transactions.specs.declared.stopped.Stopped.TheVariants.{Cancelled}
use Rattle.transactions.specs.declared.tried.Done.{Done as Value}
use Rattle.transactions.specs.declared.tried.Tried.TheVariants.{Done as Told}
use Rattle.itm_runtime.specs.declared.stop.Stop.{Stop}
use Rattle.transactions.specs.Lent.{Lent}
use Rattle.transactions.specs.Blocks.{AreRunAgain, Enters, IsTakenBack}
use Rattle.transactions.specs.Runs.{HasBegun, HasEnded, KeepsBody, usual}

-- the call leaves a transaction open and revocable: of an abort its caller says that some block is open still
abbrev pub Stays : Call → Standing → Type 0
Stays (Begin props room) new = props.goes_irrevocable ≡ false
Stays (Abort outer) new = in_transaction new.engine ≡ true
Stays (Mode room) new = ⊥
Stays call new = Unit {0}

-- what a body does: a call, with its reply; or blocks that it began and of whose calls nothing is told, as they were taken back, with the undo actions that came to run by that
pub data Deed : Type 0 where
  Calls : Call → Replied → Deed
  TakesBack : List Action → Deed

-- such deeds led the thread from the one standing to the other: each call was answered by its reply, and nothing but the undo actions is left of what was taken back
abbrev pub Makes : Words → Standing → List Deed → Standing → Type 0
Makes words t [] new = new ≡ t
Makes words t (Calls call reply ∷ rest) new = (next : Standing) × Stays call next × IsAnswered words (start_of t call false) (Reply reply) next.pass next.engine × Makes words next rest new
Makes words t (TakesBack gone ∷ rest) new = (back : Standing) × IsTakenBack t gone back × Makes words back rest new

abbrev pub calls_of : List Deed → List Call
calls_of [] = []
calls_of (Calls call reply ∷ rest) = call ∷ calls_of rest
calls_of (TakesBack gone ∷ rest) = calls_of rest

abbrev pub replies_of : List Deed → List Replied
replies_of [] = []
replies_of (Calls call reply ∷ rest) = reply ∷ replies_of rest
replies_of (TakesBack gone ∷ rest) = replies_of rest

-- the deeds of a block that gave a value: what its runs before that one left, its begin, what its body did, and its commit
abbrev pub block_of : List Action → List Deed → List Deed
block_of gone made = TakesBack gone ∷ Calls (Begin usual 0) (Code 5) ∷ (made ++ Calls Commit Done ∷ [])

-- and of one that its body took back: it ends with its abort
abbrev pub cancelled_of : List Action → List Deed → List Deed
cancelled_of gone made = TakesBack gone ∷ Calls (Begin usual 0) (Code 5) ∷ (made ++ Calls (Abort false) (Code 24) ∷ [])

-- these undo actions have come to run
abbrev pub with_gone : State → List Action → State
with_gone s gone = record s { actions = record s.actions { ran = s.actions.ran ++ map as_undo gone } }

-- the plain machine's state after the calls, where the undo actions come to run between them as they did
abbrev pub state_with : ℕ → State → List Deed → State
state_with deepest s [] = s
state_with deepest s (Calls call reply ∷ rest) = state_with deepest (after deepest s call) rest
state_with deepest s (TakesBack gone ∷ rest) = state_with deepest (with_gone s gone) rest

-- the plain machine's transaction, begun on the bytes that the first k commits have left
abbrev pub begun_at : View → ℕ → List ℕ → State
begun_at v k arena = opened (bytes_of (memory_of v k)) arena usual

-- and once these calls are made and the commit after them
abbrev pub committed_at : ℕ → View → ℕ → List ℕ → List Call → State
committed_at deepest v k arena calls = after deepest (state_after deepest (begun_at v k arena) calls) Commit

-- A transaction of these deeds committed at a position. Each reply is the plain machine's, which makes the calls alone, on the bytes that the commits before that position have left; just where the machine then has written, the next commit is the transaction's own, and leaves the machine's bytes. The arena is the machine's, and so are the actions, with the undo actions of what was taken back in their places.
pub record IsPlain (deepest : ℕ) (arena : List ℕ) (made : List Deed) (at : ℕ) (wrote : Bool) (new : Standing) : Type 0 where
  pub seen : at ≤ length (view_of new.pass).seen
  pub replied : replies_of made ≡ replies deepest (begun_at (view_of new.pass) at arena) (calls_of made)
  pub wrote_is : wrote ≡ (committed_at deepest (view_of new.pass) at arena (calls_of made)).wrote
  pub next : wrote ≡ true → (at < length (view_of new.pass).seen) × (bytes_of (memory_of (view_of new.pass) (suc at)) ≡ (committed_at deepest (view_of new.pass) at arena (calls_of made)).memory)
  pub arena_is : new.engine.arena ≡ (committed_at deepest (view_of new.pass) at arena (calls_of made)).arena
  pub actions_are : new.engine.actions ≡ (after deepest (state_with deepest (begun_at (view_of new.pass) at arena) made) Commit).actions

module _ {F R E : Type 0} (fn : Mut F (MutBor Lent × Unit {0}) (Result R (Stopped E) × (MutBor Lent × Unit {0}))) where
  -- what each run of a body does that gives a value
  abbrev pub Makings : Type 0
  Makings = (f : F) (x : Lent) (value : R) (f' : F) (x' : Lent) → CalledAtMut fn f x (Ok value) f' x' → (made : List Deed) × Makes x.words x.thread made x'.thread

  -- and what each run does that takes its block back
  abbrev pub Cancellings : Type 0
  Cancellings = (f : F) (x : Lent) (why : E) (f' : F) (x' : Lent) → CalledAtMut fn f x (Err (Cancelled why)) f' x' → (made : List Deed) × Makes x.words x.thread made x'.thread

  -- The value that is told was given by a run whose transaction began and committed just before and after it, and whose calls are the plain machine's at the position told. What came before its begin was so; the body is the first one where bodies are left as they were.
  pub record IsPlainRun (makings : Makings) (After : F → Lent → Bool → Type 0) (first : F) (words : Words) (done : Value R) (new : Standing) : Type 0 where
    pub body : F
    pub same : KeepsBody fn → body ≡ first
    pub mid : Lent
    pub again : Bool
    pub after : After body mid again
    pub answer : Answer
    pub began : Lent
    pub begins : HasBegun mid.thread again answer began
    pub here : began.words ≡ words
    pub depth_is : began.thread.engine.depth ≡ mid.thread.engine.depth
    pub arena_is : began.thread.engine.arena ≡ mid.thread.engine.arena
    pub body' : F
    pub last : Lent
    pub runs : CalledAtMut fn body began (Ok done.value) body' last
    pub ends : HasEnded {E = E} last done.value (Told done) new
    pub plain : IsPlain began.thread.engine.depth began.thread.engine.arena (makings body began done.value body' last runs).0 done.at done.wrote new

  -- a block's last run, after those that were told again, gave what it gave in a run of its body that had just begun
  pub record IsLastRun (first : F) (old : Lent) (gives : Result R (Stopped E)) (body : F) (began : Lent) (body' : F) (last : Lent) : Type 0 where
    pub times : ℕ
    pub from : Lent
    pub before : AreRunAgain fn first old times body from
    pub enters : Enters from began
    pub here : began.words ≡ old.words
    pub same : KeepsBody fn → body ≡ first
    pub runs : CalledAtMut fn body began gives body' last

  -- a block's value was given by a run whose deeds are, with the begin before them and the commit after them, those of the thread, but for the runs before it
  pub record IsPlainBlock (makings : Makings) (first : F) (old : Lent) (value : R) (new : Lent) : Type 0 where
    pub gone : List Action
    pub body : F
    pub began : Lent
    pub body' : F
    pub last : Lent
    pub run : IsLastRun first old (Ok value) body began body' last
    pub makes : Makes old.words old.thread (block_of gone (makings body began value body' last run.runs).0) new.thread

  -- so it is with a run that took the block back, and the abort after it
  pub record IsPlainBack (cancellings : Cancellings) (first : F) (old : Lent) (why : E) (new : Lent) : Type 0 where
    pub gone : List Action
    pub body : F
    pub began : Lent
    pub body' : F
    pub last : Lent
    pub run : IsLastRun first old (Err (Cancelled why)) body began body' last
    pub makes : Makes old.words old.thread (cancelled_of gone (cancellings body began why body' last run.runs).0) new.thread

  -- where the block gave a value
  abbrev pub IsPlainIn : Makings → F → Lent → Result (Result R E) Stop → Lent → Type 0
  IsPlainIn makings first old (Ok (Ok value)) new = IsPlainBlock makings first old value new
  IsPlainIn makings first old told new = Unit {0}

  -- where its body took it back
  abbrev pub IsPlainBackIn : Cancellings → F → Lent → Result (Result R E) Stop → Lent → Type 0
  IsPlainBackIn cancellings first old (Ok (Err why)) new = IsPlainBack cancellings first old why new
  IsPlainBackIn cancellings first old told new = Unit {0}
