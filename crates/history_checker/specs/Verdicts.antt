-- What is told of a history, by the plain machine alone.
use Rattle.std.specs.Prelude.{◌≡◌, ◌≤◌, ◌%◌, All, ℕ, zero, suc, ◌+◌, ◌*◌, ◌-◌, ◌^◌, Bool, false, not, ◌&&◌, ◌||◌, ◌==◌, nat_lt, nat_le, min, sum_by, bytes_eq, if◌then◌else◌, List, [], ◌∷◌, ◌++◌, length, slice_get, take, Option, None, Some}
use Rattle.itm_types.specs.declared.limits.TheConstants.{MAX_ARENA, MAX_MEMORY}
use Rattle.itm_model.specs.declared.limits.TheConstants.{WORD}
use Rattle.tx_attempts.specs.declared.attempt.Again.{Again}
use Rattle.tx_attempts.specs.declared.attempt.Attempt.{Attempt}
use Rattle.tx_attempts.specs.Attempts.{is_committed, is_at}
use Rattle.tx_attempts.specs.Counts.{count_at, count_committed}
use Rattle.tx_attempts.specs.Restarts.{before}
use Rattle.tx_history.specs.declared.history.History.{History}
use Rattle.tx_history.specs.declared.history.Version.{Version}
use Rattle.tx_history.specs.declared.history.Version.TheVariants.{One, Two, Three}
use Rattle.tx_history.specs.Legal.{memory_at, is_unfinished, is_holding, count_holding}
use Rattle.tx_history.specs.Versions.{depth_of}
use Rattle.history_checker.specs.declared.verdict.BadKind.TheVariants as kind
use Rattle.history_checker.specs.declared.verdict.Fault.{Fault}
use Rattle.history_checker.specs.declared.verdict.Spot.{Spot}
use Rattle.history_checker.specs.declared.verdict.Verdict.{Verdict}
use Rattle.history_checker.specs.declared.verdict.Verdict.TheVariants.{Legal, Bad}
use Rattle.history_checker.specs.Replays.{first_of, at_head, fault_in}

-- the plain machine can have its memory, of some whole words, and each attempt's arena
pub record CanReplay (h : History) : Type 0 where
  pub some : WORD ≤ length h.memory
  pub room : length h.memory ≤ MAX_MEMORY
  pub words : length h.memory % WORD ≡ 0
  pub arenas : All (λ a. length a.arena ≤ MAX_ARENA) h.attempts

-- ## Lines

-- the lines of a block that ran again: its arena, and each action that had run in it
abbrev pub again_count : Again → ℕ
again_count a = 1 + length a.undone

-- the lines of an attempt: its head, its arena, one for each call, those of blocks that ran again, one for each action that ran, and its end
abbrev pub line_count : Attempt → ℕ
line_count a = 3 + length a.calls.list + sum_by again_count a.restarts + length a.ran

-- the line of the first head: the third version has a line for its depth before it
abbrev pub first_row : Version → ℕ
first_row One = 3
first_row Two = 3
first_row (Three depth) = 4

-- the head line of an attempt; that of one past the last is the final line
abbrev pub head_row : Version → List Attempt → ℕ → ℕ
head_row version attempts i = first_row version + sum_by line_count (take i attempts)

-- the blocks that ran again in an attempt, if there is one
abbrev pub restarts_of : Option Attempt → List Again
restarts_of None = []
restarts_of (Some a) = a.restarts

-- the line of a fault, behind those of the blocks that ran again before its call
abbrev pub row_in : ℕ → List Again → Option ℕ → ℕ
row_in head restarts None = head
row_in head restarts (Some call) = head + 2 + call + sum_by again_count (before (suc call) restarts)

-- lines are told up to the largest number
abbrev pub told_row : ℕ → ℕ
told_row row = min row (2 ^ 64 - 1)

-- ## Positions

-- the attempt at this place has the fault, if there is one
abbrev pub at_place : ℕ → Option Fault → Option Spot
at_place i None = None
at_place i (Some fault) = Some (record { attempt = i; fault = fault })

-- it is committed at a position that there is not, or that one of those before it has
abbrev pub is_misplaced : ℕ → List Attempt → Attempt → Bool
is_misplaced n before a = is_committed a.outcome && (nat_le n a.at || nat_lt 0 (count_at a.at before))

-- the first one that is, behind those before it
abbrev pub position_fault : ℕ → List Attempt → List Attempt → Option Spot
position_fault n before [] = None
position_fault n before (a ∷ rest) =
    if is_misplaced n before a then at_place (length before) (Some (at_head kind.Position)) else position_fault n (before ++ a ∷ []) rest

-- it is not committed, and saw more commits than there are
abbrev pub is_beyond : ℕ → Attempt → Bool
is_beyond n a = not (is_committed a.outcome) && nat_lt n a.at

-- the first one that did, of which the first has this number
abbrev pub at_fault : ℕ → ℕ → List Attempt → Option Spot
at_fault n i [] = None
at_fault n i (a ∷ rest) = if is_beyond n a then at_place i (Some (at_head kind.At)) else at_fault n (suc i) rest

-- ## Replays

-- the fault of the attempt committed at this position, on the memory there
abbrev pub fault_at : ℕ → List ℕ → ℕ → ℕ → List Attempt → Option Spot
fault_at deepest memory position i [] = None
fault_at deepest memory position i (a ∷ rest) = if is_at position a then at_place i (fault_in deepest memory a) else fault_at deepest memory position (suc i) rest

-- the first fault of those committed at so many first positions
abbrev pub committed_fault : History → ℕ → Option Spot
committed_fault h zero = None
committed_fault h (suc k) = first_of (committed_fault h k) (fault_at (depth_of h.version) (memory_at h k) k 0 h.attempts)

-- the first fault of the others, in the order of the text
abbrev pub others_fault : History → ℕ → List Attempt → Option Spot
others_fault h i [] = None
others_fault h i (a ∷ rest) =
    first_of (if is_committed a.outcome then None else at_place i (fault_in (depth_of h.version) (memory_at h a.at) a)) (others_fault h (suc i) rest)

-- ## The end

-- an attempt that has not ended stands at the last position
abbrev pub is_waiting : ℕ → List Attempt → Bool
is_waiting n [] = false
is_waiting n (a ∷ rest) = (is_unfinished a.outcome && (a.at == n)) || is_waiting n rest

-- an attempt that holds the clock stands elsewhere
abbrev pub is_away : History → ℕ → List Attempt → Bool
is_away h n [] = false
is_away h n (a ∷ rest) = (is_holding h a && not (a.at == n)) || is_away h n rest

-- the clock is free, and the bytes are those that the committed ones leave
abbrev pub ends_free : History → ℕ → Bool
ends_free h n = (h.clock == 2 * n) && (bytes_eq h.bytes (memory_at h n) && (count_holding h h.attempts == 0))

-- or an attempt at the last position holds it, and no other
abbrev pub ends_held : History → ℕ → Bool
ends_held h n =
    (h.clock == 2 * n + 1)
    && ((length h.bytes == length h.memory) && (is_waiting n h.attempts && (nat_le (count_holding h h.attempts) 1 && not (is_away h n h.attempts))))

-- ## The verdict

-- the first fault of an attempt, with so many that committed
abbrev pub first_fault : History → ℕ → Option Spot
first_fault h n =
    first_of (position_fault n [] h.attempts) (first_of (at_fault n 0 h.attempts) (first_of (committed_fault h n) (others_fault h 0 h.attempts)))

abbrev pub bad : Version → List Attempt → Spot → Verdict
bad version attempts spot = Bad (told_row (row_in (head_row version attempts spot.attempt) (restarts_of (slice_get attempts spot.attempt)) spot.fault.call)) spot.fault.kind

abbrev pub final_verdict : History → ℕ → Verdict
final_verdict h n = if ends_free h n || ends_held h n then Legal else Bad (told_row (head_row h.version h.attempts (length h.attempts))) kind.Final

abbrev pub verdict_on : History → ℕ → Option Spot → Verdict
verdict_on h n None = final_verdict h n
verdict_on h n (Some spot) = bad h.version h.attempts spot

unfoldable pub verdict_of : History → Verdict
verdict_of h = verdict_on h (count_committed h.attempts) (first_fault h (count_committed h.attempts))
