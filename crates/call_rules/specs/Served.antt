-- What a call of a thread is answered, and what it leaves.
use Rattle.std.specs.Prelude.{◌≡◌, ◌≢◌, ◌⊎◌, ℕ, suc, ◌+◌, ◌/◌, ◌%◌, ◌<◌, ◌≤◌, ◌&&◌, not, Bool, true, false, List, [], ◌∷◌, ◌++◌, length, take, slice_get, Option, None, Some}
use Rattle.itm_types.specs.declared.call.Call.{Call}
use Rattle.itm_types.specs.declared.call.Call.TheVariants.{Begin, Commit}
use Rattle.itm_types.specs.declared.call.Reply.{Reply as Replied}
use Rattle.itm_types.specs.declared.row.LogRow.{LogRow}
use Rattle.itm_types.specs.Memory.{bytes_of, IsMemory, Agrees}
use Rattle.itm_types.specs.Calls.{is_abort}
use Rattle.itm_model.specs.Machine.{after, back, reply, undone}
use Rattle.nest_frames.specs.Nest.{reads_of, renewed}
use Rattle.norec_core.specs.declared.answer.Answer.{Answer}
use Rattle.norec_core.specs.declared.answer.Answer.TheVariants.{Reply, Committed, Conflict, Restarted, Busy, Full}
use Rattle.norec_core.specs.Core.{Core, came, in_transaction, is_within}
use Rattle.norec_core.specs.Order.{stage_at}
use Rattle.norec_core.specs.Phases.{Idle}
use Rattle.norec_core.specs.Proceeds.{GoesOver, IsBegin, WantsClock, most}
use Rattle.norec_core.specs.Restarts.{IsRestart, begun_again}
use Rattle.norec_core.specs.Effects.{recoded, room_left}
use Rattle.norec_core.specs.Stands.{stands_for}
use Rattle.shared_words.specs.declared.view.View.{View}
use Rattle.shared_words.specs.Commits.{StartsWith}
use Rattle.shared_words.specs.Views.{held_words}
use Rattle.call_rules.specs.Ties.{memory_of}

-- a call as it came, with the view and the engine of that moment
pub record Start : Type 0 where
  pub view : View
  pub engine : Core
  pub call : Call
  pub again : Bool

-- the view is a later one of the same pass; what is known of the clock does not fall
pub record Went (old new : View) : Type 0 where
  pub base : new.base ≡ old.base
  pub share : new.share ≡ old.share
  pub grows : StartsWith new.seen old.seen
  pub looks : old.looks ≤ new.looks
  pub high : old.high ≤ new.high

-- the memory that an engine stands over: in an irrevocable transaction the words as its own stores have left them, else those of its position
abbrev pub memory_in : Bool → View → View → ℕ → List ℕ
memory_in true holder v k = held_words holder
memory_in false holder v k = memory_of v k

-- the memory over which the call came, where it left the snapshot at this view's position
abbrev pub came_over : Start → View → Core → List ℕ
came_over s v e = memory_in s.engine.irrevocable s.view v (e.snapshot / 2)

-- and the one that it leaves
abbrev pub left_over : View → Core → List ℕ
left_over v e = memory_in e.irrevocable v v (e.snapshot / 2)

abbrev pub mine_if : Bool → List ℕ → ℕ → List ℕ
mine_if true mine at = mine ++ at ∷ []
mine_if false mine at = mine

-- one's own positions after the answer
abbrev pub mine_after : List ℕ → Answer → List ℕ
mine_after mine (Reply r) = mine
mine_after mine (Committed at wrote) = mine_if wrote mine at
mine_after mine (Conflict clock word) = mine
mine_after mine (Restarted clock word) = mine
mine_after mine (Busy clock) = mine
mine_after mine (Full at) = mine

-- from the one memory to the other, the engine and the reply are the plain machine's
pub record Meets (s : Start) (r : Replied) (e : Core) (m left : List ℕ) : Type 0 where
  pub state : stands_for e left ≡ after s.engine.depth (stands_for s.engine m) s.call
  pub reply_is : r ≡ recoded s.call (s.again && not (in_transaction s.engine)) (reply s.engine.depth (stands_for s.engine m) s.call)

-- so it is over the memory of the position at which the call left the snapshot, or over the words that are held; and where the transaction is not irrevocable, over each memory that agrees with the log
pub record Replies (s : Start) (r : Replied) (v : View) (e : Core) : Type 0 where
  pub here : Meets s r e (came_over s v e) (left_over v e)
  pub takes : s.engine.irrevocable ≡ false → e.irrevocable ≡ true → s.view.looks < v.looks  -- the clock is taken in this very call
  pub all : s.engine.irrevocable ≡ false → e.irrevocable ≡ false → (m : List ℕ) → IsMemory s.engine.words m → Agrees m e.log → Meets s r e m m
  pub still : is_abort s.call ≡ false → in_transaction s.engine ≡ true → in_transaction e ≡ true  -- an abort alone ends a transaction by its reply
  pub restarted : e.restarted ≡ (came s.engine s.call s.again).restarted  -- no block goes back, and an outermost begin counts anew
  pub room : e.room ≡ room_left (came s.engine s.call s.again) s.call r  -- for commit actions: what the call asks for where it makes the transaction irrevocable, and one less after each

-- no transaction is open any more, or still none is. The position was seen, and its memory agrees with all that was read
pub record Closes (s : Start) (at : ℕ) (v : View) (e : Core) : Type 0 where
  pub closed : in_transaction e ≡ false
  pub at_is : at ≡ e.snapshot / 2
  pub seen : at ≤ length v.seen
  pub late : in_transaction s.engine ≡ true → s.engine.snapshot ≤ e.snapshot
  pub agrees : in_transaction s.engine ≡ true → Agrees (memory_of v at) s.engine.log

-- the engine stands for the state with every open block rolled back
abbrev pub IsUndone : Start → Core → Type 0
IsUndone s e = (m : List ℕ) → IsMemory s.engine.words m → stands_for e m ≡ undone (stands_for s.engine m)

-- it committed there: where it wrote, the next commit that was seen is its own, and leaves the plain machine's memory
pub record Commits (s : Start) (at : ℕ) (wrote : Bool) (v : View) (e : Core) : Type 0 where
  pub closes : Closes s at v e
  pub was_open : in_transaction s.engine ≡ true
  pub outermost : length s.engine.blocks ≡ 1
  pub call : s.call ≡ Commit
  pub wrote_is : wrote ≡ (after s.engine.depth (stands_for s.engine (came_over s v e)) Commit).wrote
  pub next : wrote ≡ true → (at < length v.seen) × (bytes_of (memory_of v (suc at)) ≡ (after s.engine.depth (stands_for s.engine (came_over s v e)) Commit).memory)
  pub clock : wrote ≡ true → e.clock ≡ e.snapshot + 2  -- the clock is known as it left it
  pub few : wrote ≡ true → at < s.engine.max_commits
  pub arena_is : e.arena ≡ (after s.engine.depth (stands_for s.engine (came_over s v e)) Commit).arena
  pub actions_is : e.actions ≡ (after s.engine.depth (stands_for s.engine (came_over s v e)) Commit).actions

-- the last load of a word found this
abbrev pub LoadedLast : View → ℕ → ℕ → Type 0
LoadedLast v word found = (before : List (ℕ × ℕ)) × (v.fresh ≡ before ++ (word, found) ∷ [])

-- the word that differs is one that the attempt has read, and was loaded last, with another value
abbrev pub IsRead : Start → ℕ → View → Option ℕ → Type 0
IsRead s at v None = Unit {0}
IsRead s at v (Some word) = (log : List LogRow) × (place : ℕ) × (row : LogRow) × (found : ℕ) × StartsWith log s.engine.log × Agrees (memory_of v at) log × (slice_get log place ≡ Some row) × (row.word ≡ word) × LoadedLast v word found × (row.value ≢ found)

-- the call begins a block that goes irrevocable
abbrev pub GoesBegin : Call → Type 0
GoesBegin (Begin props room) = props.goes_irrevocable ≡ true
GoesBegin call = ⊥

-- the call has looked at the clock as often as it may: at least once for each round that it started, or for each try of a begin; an exchange that lost counts too
abbrev pub IsPatient : Start → View → Type 0
IsPatient s v = s.view.looks + s.engine.patience ≤ v.looks

-- the clock was seen in this call, and is later than the snapshot. An outermost begin that goes irrevocable may lose the clock too. Where no word is named, the call has looked as often as it may
pub record Conflicts (s : Start) (clock : ℕ) (word : Option ℕ) (v : View) (e : Core) : Type 0 where
  pub closes : Closes s (e.snapshot / 2) v e
  pub later : e.snapshot < clock
  pub clock_is : clock ≡ v.clock
  pub looks : s.view.looks < v.looks
  pub word_is : IsRead s (e.snapshot / 2) v word
  pub revocable : s.engine.irrevocable ≡ false
  pub begins : in_transaction s.engine ≡ false → GoesBegin s.call
  pub patient : word ≡ None → IsPatient s v
  pub undone : IsUndone s e

-- the clock was seen in this call, as often as it may, and held at the last look
pub record IsBusy (s : Start) (clock : ℕ) (v : View) (e : Core) : Type 0 where
  pub closes : Closes s (e.snapshot / 2) v e
  pub was_closed : in_transaction s.engine ≡ false
  pub begins : IsBegin (Some s.call)
  pub odd : clock % 2 ≡ 1
  pub patient : IsPatient s v
  pub clock_is : clock ≡ v.clock
  pub looks : s.view.looks < v.looks
  pub undone : IsUndone s e

-- the call wants the clock, and as many commits were seen as may be
pub record IsFull (s : Start) (at : ℕ) (v : View) (e : Core) : Type 0 where
  pub closes : Closes s at v e
  pub wants : WantsClock s.engine (Some s.call)
  pub full : s.engine.max_commits ≤ at
  pub undone : IsUndone s e

-- the innermost block, which is within another one, has gone back to just after its begin: the position has moved up to the clock that was seen last, in this call. What is left of the log agrees with its memory, and over every memory that agrees with it the engine stands for that block rolled back and begun again. Which word was found different, the engine's own clauses say
pub record Restarts (s : Start) (clock word : ℕ) (v : View) (e : Core) : Type 0 where
  pub still : (in_transaction s.engine ≡ true) × (in_transaction e ≡ true)
  pub within : is_within s.engine.blocks ≡ true
  pub left : s.engine.restarted < s.engine.restarts
  pub counted : e.restarted ≡ s.engine.restarted + 1
  pub clock_is : (clock ≡ v.clock) × (clock ≡ e.snapshot)
  pub later : s.engine.snapshot < clock
  pub looks : s.view.looks < v.looks
  pub revocable : (s.engine.irrevocable ≡ false) × (e.irrevocable ≡ false)
  pub log : e.log ≡ take (reads_of s.engine.blocks) s.engine.log
  pub agrees : Agrees (memory_of v (clock / 2)) e.log
  pub blocks : e.blocks ≡ renewed s.engine.blocks
  pub meets : (m : List ℕ) → IsMemory s.engine.words m → Agrees m e.log → stands_for e m ≡ begun_again s.engine.blocks (back (stands_for s.engine m))

abbrev pub Tells : Start → Answer → View → Core → Type 0
Tells s (Reply r) v e = Replies s r v e
Tells s (Committed at wrote) v e = Commits s at wrote v e
Tells s (Conflict clock word) v e = Conflicts s clock word v e
Tells s (Restarted clock word) v e = Restarts s clock word v e
Tells s (Busy clock) v e = IsBusy s clock v e
Tells s (Full at) v e = IsFull s at v e

-- within an attempt, unless a block goes back, the snapshot does not fall, and what was read before agrees with the memory of its position. The log grows, and only at a look at the clock; as the transaction becomes irrevocable it is emptied
pub record Grows (s : Start) (v : View) (e : Core) : Type 0 where
  pub snapshot : s.engine.snapshot ≤ e.snapshot
  pub log : StartsWith e.log s.engine.log ⊎ GoesOver s.engine e
  pub looks : (e.log ≡ s.engine.log) ⊎ (s.view.looks < v.looks) ⊎ GoesOver s.engine e
  pub agrees : Agrees (memory_of v (e.snapshot / 2)) s.engine.log

-- an attempt begins at a look at the clock, after all commits that were seen before
pub record Opens (s : Start) (v : View) (e : Core) : Type 0 where
  pub looks : s.view.looks < v.looks
  pub seen : length s.view.seen ≤ e.snapshot / 2

pub record Served (s : Start) (a : Answer) (v : View) (e : Core) : Type 0 where
  pub tells : Tells s a v e
  pub mine : v.mine ≡ mine_after s.view.mine a
  pub went : Went s.view v
  pub rises : s.engine.clock ≤ e.clock  -- the clock as the thread knows it does not fall
  pub grows : in_transaction s.engine ≡ true → in_transaction e ≡ true → (IsRestart a → ⊥) → Grows s v e
  pub opens : in_transaction s.engine ≡ false → in_transaction e ≡ true → Opens s v e
  pub steps : length v.steps ≡ length s.view.steps + e.spent  -- it took as many steps as it tells
  pub at_once : stage_at s.engine s.call s.again ≡ Idle → (v ≡ s.view) × (e.snapshot ≡ s.engine.snapshot)  -- a call that has no step to ask for looks at nothing
  pub fixed : s.engine.irrevocable ≡ true → e.snapshot ≡ s.engine.snapshot  -- no other commits before one that is irrevocable
  pub within : e.spent ≤ most (came s.engine s.call s.again) (Some s.call)
  pub words : e.words ≡ s.engine.words
  pub limits : (e.max_commits ≡ s.engine.max_commits) × (e.patience ≡ s.engine.patience) × (e.depth ≡ s.engine.depth) × (e.restarts ≡ s.engine.restarts)
