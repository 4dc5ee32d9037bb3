-- What attempts did, and the memory that committed ones leave.
use Rattle.std.specs.Prelude.{◌≡◌, ℕ, zero, suc, Bool, true, false, ◌&&◌, ◌==◌, if◌then◌else◌, List, [], ◌∷◌, ◌++◌, map, Option, None, Some}
use Rattle.itm_types.specs.declared.call.Call.{Call}
use Rattle.itm_types.specs.declared.call.Call.TheVariants.{Commit, Abort}
use Rattle.itm_types.specs.declared.call.Reply.TheVariants.{Done, Code}
use Rattle.itm_types.specs.declared.call.Reply.{Reply}
use Rattle.itm_model.specs.State.{State}
use Rattle.itm_model.specs.Machine.{opened}
use Rattle.itm_model.specs.Runs.{state_through}
use Rattle.tx_attempts.specs.declared.attempt.CallRecord.{CallRecord}
use Rattle.tx_attempts.specs.declared.attempt.Outcome.{Outcome}
use Rattle.tx_attempts.specs.declared.attempt.Outcome.TheVariants.{Committed, ReadOnly, Cancelled, Conflict, Full, NoMemory, Unfinished}
use Rattle.tx_attempts.specs.declared.attempt.Attempt.{Attempt}
use Rattle.tx_attempts.specs.Restarts.{breaks_in, breaks_of}

-- an attempt that has not begun, in whose place one will
abbrev pub blank : Attempt
blank = record { outcome = Unfinished; props = record { no_abort = false; no_irrevocable = false; goes_irrevocable = false }; thread = 0; nth = 0; began = 0; at = 0; arena = []; calls = record { list = []; room = 0 }; restarts = []; ran = [] }

-- it wrote, and holds a position
abbrev pub is_committed : Outcome → Bool
is_committed Committed = true
is_committed ReadOnly = false
is_committed Cancelled = false
is_committed Conflict = false
is_committed Full = false
is_committed NoMemory = false
is_committed Unfinished = false

-- the last of these calls is a commit that was accepted
abbrev pub ByCommit : List CallRecord → Type 0
ByCommit calls = (before : List CallRecord) × (calls ≡ before ++ record { call = Commit; reply = Done } ∷ [])

-- or an abort
abbrev pub ByAbort : List CallRecord → Type 0
ByAbort calls = (before : List CallRecord) × (outer : Bool) × (calls ≡ before ++ record { call = Abort outer; reply = Code 24 } ∷ [])

-- where the block of an attempt has ended, its last call says how
abbrev pub ClosedBy : Outcome → List CallRecord → Type 0
ClosedBy Committed calls = ByCommit calls
ClosedBy ReadOnly calls = ByCommit calls
ClosedBy Cancelled calls = ByAbort calls
ClosedBy Conflict calls = Unit {0}
ClosedBy Full calls = Unit {0}
ClosedBy NoMemory calls = Unit {0}
ClosedBy Unfinished calls = Unit {0}

abbrev pub pair_of : CallRecord → Call × Reply
pair_of e = (e.call, e.reply)

-- the calls with their replies, as the plain machine gives them
abbrev pub pairs_of : Attempt → List (Call × Reply)
pairs_of a = map pair_of a.calls.list

abbrev pub calls_of : Attempt → List Call
calls_of a = map (λ e. e.call) a.calls.list

abbrev pub replies_of : Attempt → List Reply
replies_of a = map (λ e. e.reply) a.calls.list

-- the plain state after the attempt's calls alone on these bytes, each block that ran again from the arena that is told; `deepest` blocks may be open
abbrev pub alone : ℕ → List ℕ → Attempt → State
alone deepest memory a = state_through deepest (breaks_of a.restarts) (opened memory a.arena a.props) (calls_of a)

-- the same, as it was for the engine: with the actions that had run in what was taken out
abbrev pub alone_whole : ℕ → List ℕ → Attempt → State
alone_whole deepest memory a = state_through deepest (breaks_in a.restarts) (opened memory a.arena a.props) (calls_of a)

-- the attempt committed at this position
abbrev pub is_at : ℕ → Attempt → Bool
is_at position a = is_committed a.outcome && (a.at == position)

abbrev pub committed_at : List Attempt → ℕ → Option Attempt
committed_at [] position = None
committed_at (a ∷ rest) position = if is_at position a then Some a else committed_at rest position

abbrev pub memory_left : ℕ → List ℕ → Option Attempt → List ℕ
memory_left deepest memory None = memory
memory_left deepest memory (Some a) = (alone deepest memory a).memory

-- the bytes left by so many first commits, each run alone on what the one before it left
abbrev pub memory_after : ℕ → List ℕ → List Attempt → ℕ → List ℕ
memory_after deepest opening attempts zero = opening
memory_after deepest opening attempts (suc k) = memory_left deepest (memory_after deepest opening attempts k) (committed_at attempts k)

-- the attempts of one actor, in order
abbrev pub of_thread : ℕ → List Attempt → List Attempt
of_thread thread [] = []
of_thread thread (a ∷ rest) = if a.thread == thread then a ∷ of_thread thread rest else of_thread thread rest
