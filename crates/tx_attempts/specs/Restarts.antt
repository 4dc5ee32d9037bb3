-- Inner blocks that ran again within an attempt: what is told of them, and what they are to the plain machine.
use Rattle.std.specs.Prelude.{◌≡◌, ℕ, suc, ◌+◌, ◌<◌, ◌==◌, Bool, true, false, nat_lt, if◌then◌else◌, List, [], ◌∷◌, ◌++◌, drop, length, slice_get, take, Option, None, Some}
use Rattle.itm_types.specs.declared.call.Ran.{Ran}
use Rattle.itm_types.specs.declared.call.Reply.{Reply}
use Rattle.itm_types.specs.declared.call.Reply.TheVariants.{Done, Code}
use Rattle.itm_types.specs.Calls.{is_begin, is_commit, abort_of}
use Rattle.itm_model.specs.State.{State}
use Rattle.itm_model.specs.Runs.{Breaks}
use Rattle.tx_attempts.specs.declared.attempt.Again.{Again}
use Rattle.tx_attempts.specs.declared.attempt.CallRecord.{CallRecord}

-- ## In a plain run

-- the block that ran again after so many calls, if one did
abbrev pub again_at : List Again → ℕ → Option Again
again_at [] n = None
again_at (a ∷ rest) n = if a.kept == n then Some a else again_at rest n

-- it does so from the arena that is told; what its blocks keep of the arena stays
abbrev pub arena_set : Option Again → State → State
arena_set None s = s
arena_set (Some a) s = record s { arena = a.arena }

-- what these make of a plain run
abbrev pub breaks_of : List Again → Breaks
breaks_of restarts n s = arena_set (again_at restarts n) s

-- the same, with the actions that had run in what was taken out
abbrev pub run_on : Option Again → State → State
run_on None s = s
run_on (Some a) s = record s { arena = a.arena; actions = record s.actions { ran = s.actions.ran ++ a.undone } }

-- so it was for the engine, where all that came to run stays told
abbrev pub breaks_in : List Again → Breaks
breaks_in restarts n s = run_on (again_at restarts n) s

-- ## Where they stand

abbrev pub IsInnerBegin : Option CallRecord → Type 0
IsInnerBegin None = ⊥
IsInnerBegin (Some e) = (is_begin e.call ≡ true) × (e.reply ≡ Code 5)

-- the calls up to the block's begin, which was accepted, are so many; its arena has so many bytes
pub record IsAgain (size : ℕ) (calls : List CallRecord) (a : Again) : Type 0 where
  pub place : ℕ
  pub kept : a.kept ≡ suc place
  pub begins : IsInnerBegin (slice_get calls place)
  pub arena : length a.arena ≡ size

-- each is one after so many calls or more, and after the one before it
abbrev pub AreAgain : ℕ → ℕ → List CallRecord → List Again → Type 0
AreAgain size from calls [] = Unit {0}
AreAgain size from calls (a ∷ rest) = IsAgain size calls a × (from < a.kept) × AreAgain size a.kept calls rest

-- it is so of the calls up to each of them
abbrev pub AtEach : (List CallRecord → Type 0) → List CallRecord → List Again → Type 0
AtEach P calls [] = Unit {0}
AtEach P calls (a ∷ rest) = P (take a.kept calls) × AtEach P calls rest

-- ## One more

-- those of before so many calls
abbrev pub before : ℕ → List Again → List Again
before kept [] = []
before kept (a ∷ rest) = if nat_lt a.kept kept then a ∷ before kept rest else before kept rest

-- a block runs again: what stood in it and after it is taken out
abbrev pub with_again : Again → List Again → List Again
with_again a restarts = before a.kept restarts ++ a ∷ []

-- how many actions they tell of
abbrev pub count_undone : List Again → ℕ
count_undone [] = 0
count_undone (a ∷ rest) = length a.undone + count_undone rest

-- the actions that have run in an attempt, once these have come to run in its transaction in all: those that came since are told
abbrev pub ran_on : List Ran → List Again → List Ran → List Ran
ran_on ran restarts due = ran ++ drop (length ran + count_undone restarts) due

-- ## Open blocks, by the calls

-- what is kept of each open inner block, the innermost first. An accepted begin opens one, of which this is kept
abbrev pub begun_at : {A : Type 0} → A → List A → Reply → List A
begun_at new begins (Code code) = new ∷ begins
begun_at new begins _ = begins

-- an accepted commit closes one
abbrev pub ended_in : {A : Type 0} → List A → Reply → List A
ended_in begins Done = drop 1 begins
ended_in begins _ = begins

-- an accepted abort cancels the innermost one, or all
abbrev pub cancelled_in : {A : Type 0} → Bool → List A → Reply → List A
cancelled_in outer begins (Code code) = if outer then [] else drop 1 begins
cancelled_in outer begins _ = begins

abbrev pub open_by : {A : Type 0} → Bool → Bool → Option Bool → A → List A → Reply → List A
open_by true commits abort new begins reply = begun_at new begins reply
open_by false true abort new begins reply = ended_in begins reply
open_by false false (Some outer) new begins reply = cancelled_in outer begins reply
open_by false false None new begins reply = begins

-- once one more call is made within the outermost block
abbrev pub open_after : {A : Type 0} → A → List A → CallRecord → List A
open_after new begins e = open_by (is_begin e.call) (is_commit e.call) (abort_of e.call) new begins e.reply

-- the calls up to the begin of each, once all of these are made, of which the first is number n
abbrev pub open_from : ℕ → List ℕ → List CallRecord → List ℕ
open_from n begins [] = begins
open_from n begins (e ∷ rest) = open_from (suc n) (open_after n begins e) rest

abbrev pub open_in : List CallRecord → List ℕ
open_in calls = open_from 1 [] calls
