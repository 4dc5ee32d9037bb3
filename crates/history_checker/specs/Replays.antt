-- What is wrong with one attempt, replayed alone on a memory.
use Rattle.std.specs.Prelude.{ℕ, suc, ◌-◌, Bool, true, false, not, ◌&&◌, ◌==◌, nat_lt, bytes_eq, slice_get, if◌then◌else◌, List, [], ◌∷◌, length, take, Option, None, Some}
use Rattle.std.specs.Cmp.Lexicographic.{pointwise}
use Rattle.itm_types.specs.Calls.{is_begin}
use Rattle.itm_types.specs.declared.call.Call.{Call}
use Rattle.itm_types.specs.declared.call.Call.TheVariants.{Begin, Commit, Abort, Mode, InTransaction, Read, Write, Log, LogBytes, Copy, Fill, CommitAction, UndoAction, Load, Save}
use Rattle.itm_types.specs.declared.call.Reply.{Reply}
use Rattle.itm_types.specs.declared.call.Reply.TheVariants.{Done, Bytes, Code, Refused}
use Rattle.itm_model.specs.State.{State}
use Rattle.itm_model.specs.Machine.{is_open, opened, reply, after}
use Rattle.tx_attempts.specs.declared.attempt.Again.{Again}
use Rattle.tx_attempts.specs.declared.attempt.Attempt.{Attempt}
use Rattle.tx_attempts.specs.declared.attempt.CallRecord.{CallRecord}
use Rattle.tx_attempts.specs.declared.attempt.Outcome.{Outcome}
use Rattle.tx_attempts.specs.declared.attempt.Outcome.TheVariants.{Committed, ReadOnly, Cancelled, Conflict, Full, NoMemory, Unfinished}
use Rattle.tx_attempts.specs.Attempts.{alone}
use Rattle.tx_attempts.specs.Restarts.{again_at, arena_set}
use Rattle.tx_history.specs.Legal.{may_begin, state_at, ran_alone}
use Rattle.history_checker.specs.declared.verdict.BadKind.{BadKind}
use Rattle.history_checker.specs.declared.verdict.BadKind.TheVariants as kind
use Rattle.history_checker.specs.declared.verdict.Fault.{Fault}
use Rattle.history_checker.specs.Matches.{same_reply, same_ran}

-- the first of two
abbrev pub first_of : {A : Type 0} → Option A → Option A → Option A
first_of None later = later
first_of (Some a) later = Some a

-- at the head of the attempt
abbrev pub at_head : BadKind → Fault
at_head k = record { call = None; kind = k }

-- at one of its calls
abbrev pub at_call : ℕ → BadKind → Fault
at_call i k = record { call = Some i; kind = k }

-- the begin of an inner block, which was accepted
abbrev pub is_entry : CallRecord → Bool
is_entry e = is_begin e.call && same_reply e.reply (Code 5)

abbrev pub is_inner_begin : Option CallRecord → Bool
is_inner_begin None = false
is_inner_begin (Some e) = is_entry e

-- behind so many calls, the calls up to such a begin are so many, and the arena has so many bytes
abbrev pub is_again : ℕ → ℕ → List CallRecord → Again → Bool
is_again size from calls a = nat_lt from a.kept && (is_inner_begin (slice_get calls (a.kept - 1)) && (length a.arena == size))

-- each block that ran again is one that began, in order, with an arena of so many bytes; of what a text tells they all are
abbrev pub are_again : ℕ → ℕ → List CallRecord → List Again → Bool
are_again size from calls [] = true
are_again size from calls (a ∷ rest) = is_again size from calls a && are_again size a.kept calls rest

-- the block that ran again next did so after so many calls
abbrev pub is_due : Option Again → ℕ → Bool
is_due None made = false
is_due (Some a) made = a.kept == made

-- a block that ran again in an irrevocable transaction, or what comes after it
abbrev pub again_fault : Option Again → State → Option Fault → Option Fault
again_fault None s later = later
again_fault (Some a) s later = if s.irrevocable then Some (at_head kind.Shape) else later

-- the first call, of which the first has this number, that stands after the end of the outermost block or has another reply than the machine's, or after which a block ran again that could not; `again` tells which block ran again after so many calls
abbrev pub calls_fault : ℕ → (ℕ → Option Again) → State → ℕ → List CallRecord → Option Fault
calls_fault deepest again s i [] = None
calls_fault deepest again s i (e ∷ rest) =
    if is_open s
    then (
    if same_reply e.reply (reply deepest s e.call)
    then again_fault (again 1) (after deepest s e.call) (calls_fault deepest (λ n. again (suc n)) (arena_set (again 1) (after deepest s e.call)) (suc i) rest)
    else Some (at_call i kind.Reply)
    )
    else Some (at_head kind.Shape)

abbrev pub is_done : Reply → Bool
is_done Done = true
is_done (Bytes value) = false
is_done (Code n) = false
is_done (Refused refusal) = false

abbrev pub is_cancelled : Reply → Bool
is_cancelled Done = false
is_cancelled (Bytes value) = false
is_cancelled (Code n) = n == 24
is_cancelled (Refused refusal) = false

-- the call is a commit that was accepted
abbrev pub is_commit_done : Call → Reply → Bool
is_commit_done Commit r = is_done r
is_commit_done (Begin props room) r = false
is_commit_done (Abort outer) r = false
is_commit_done (Mode room) r = false
is_commit_done InTransaction r = false
is_commit_done (Read hint width at) r = false
is_commit_done (Write hint at value) r = false
is_commit_done (Log width at) r = false
is_commit_done (LogBytes at size) r = false
is_commit_done (Copy c) r = false
is_commit_done (Fill hint to byte size) r = false
is_commit_done (CommitAction action) r = false
is_commit_done (UndoAction action) r = false
is_commit_done (Load width at) r = false
is_commit_done (Save at value) r = false

-- the call is an abort that was accepted
abbrev pub is_abort_done : Call → Reply → Bool
is_abort_done Commit r = false
is_abort_done (Begin props room) r = false
is_abort_done (Abort outer) r = is_cancelled r
is_abort_done (Mode room) r = false
is_abort_done InTransaction r = false
is_abort_done (Read hint width at) r = false
is_abort_done (Write hint at value) r = false
is_abort_done (Log width at) r = false
is_abort_done (LogBytes at size) r = false
is_abort_done (Copy c) r = false
is_abort_done (Fill hint to byte size) r = false
is_abort_done (CommitAction action) r = false
is_abort_done (UndoAction action) r = false
is_abort_done (Load width at) r = false
is_abort_done (Save at value) r = false

-- the last of these calls passes a test
abbrev pub last_is : (CallRecord → Bool) → List CallRecord → Bool
last_is test [] = false
last_is test (e ∷ []) = test e
last_is test (e ∷ f ∷ rest) = last_is test (f ∷ rest)

abbrev pub ends_by_commit : List CallRecord → Bool
ends_by_commit calls = last_is (λ e. is_commit_done e.call e.reply) calls

abbrev pub ends_by_abort : List CallRecord → Bool
ends_by_abort calls = last_is (λ e. is_abort_done e.call e.reply) calls

-- the transaction was irrevocable as its last call came
abbrev pub came_irrevocable : ℕ → List ℕ → Attempt → Bool
came_irrevocable deepest memory a = (state_at deepest memory a (take (length a.calls.list - 1) a.calls.list)).irrevocable

-- the machine's state after the calls fits the outcome
abbrev pub fits : ℕ → Outcome → List ℕ → Attempt → State → Bool
fits deepest Committed memory a s = not (is_open s) && ends_by_commit a.calls.list
fits deepest ReadOnly memory a s = (not (is_open s) && ends_by_commit a.calls.list) && (bytes_eq s.memory memory && not (came_irrevocable deepest memory a))
fits deepest Cancelled memory a s = not (is_open s) && ends_by_abort a.calls.list
fits deepest Conflict memory a s = is_open s && not s.irrevocable
fits deepest Full memory a s = is_open s && not s.irrevocable
fits deepest NoMemory memory a s = is_open s && not s.irrevocable
fits deepest Unfinished memory a s = is_open s

-- what is wrong at the end of an attempt, of which every reply is right
abbrev pub end_fault : ℕ → List ℕ → Attempt → State → Option Fault
end_fault deepest memory a s =
    if fits deepest a.outcome memory a s
    then (if pointwise same_ran a.ran (ran_alone a.outcome s) then None else Some (at_head kind.Ran))
    else Some (at_head kind.Shape)

-- the attempt may begin, and its blocks that ran again are such blocks
abbrev pub may_stand : Attempt → Bool
may_stand a = may_begin a.props && are_again (length a.arena) 0 a.calls.list a.restarts

-- what is wrong with an attempt on this memory, if something is: the first fault in the order of its calls, and then at its end; so many blocks may be open at once
unfoldable pub fault_in : ℕ → List ℕ → Attempt → Option Fault
fault_in deepest memory a =
    if may_stand a
    then first_of (calls_fault deepest (again_at a.restarts) (opened memory a.arena a.props) 0 a.calls.list) (end_fault deepest memory a (alone deepest memory a))
    else Some (at_head kind.Shape)
