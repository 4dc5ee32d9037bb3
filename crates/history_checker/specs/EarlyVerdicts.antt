-- The verdict of a history of the first two versions, as it was before there were others: at most 16 blocks are open at once.
use Rattle.std.specs.Prelude.{ℕ, zero, suc, ◌+◌, ◌*◌, Bool, false, not, ◌&&◌, ◌||◌, ◌==◌, nat_le, bytes_eq, if◌then◌else◌, List, [], ◌∷◌, length, Option, None, Some}
use Rattle.tx_attempts.specs.declared.attempt.Attempt.{Attempt}
use Rattle.tx_attempts.specs.Attempts.{alone, is_committed, memory_after}
use Rattle.tx_attempts.specs.Counts.{count_committed, one_where}
use Rattle.tx_history.specs.declared.history.History.{History}
use Rattle.tx_history.specs.Legal.{is_unfinished}
use Rattle.history_checker.specs.declared.verdict.BadKind.TheVariants as kind
use Rattle.history_checker.specs.declared.verdict.Spot.{Spot}
use Rattle.history_checker.specs.declared.verdict.Verdict.{Verdict}
use Rattle.history_checker.specs.declared.verdict.Verdict.TheVariants.{Legal, Bad}
use Rattle.history_checker.specs.Replays.{first_of, fault_in}
use Rattle.history_checker.specs.Verdicts.{at_fault, at_place, bad, fault_at, head_row, is_waiting, position_fault, told_row}

-- the bytes that so many first commits leave
abbrev pub early_memory : History → ℕ → List ℕ
early_memory h k = memory_after 16 h.memory h.attempts k

-- the first fault of those committed at so many first positions
abbrev pub early_committed : History → ℕ → Option Spot
early_committed h zero = None
early_committed h (suc k) = first_of (early_committed h k) (fault_at 16 (early_memory h k) k 0 h.attempts)

-- the first fault of the others, in the order of the text
abbrev pub early_others : History → ℕ → List Attempt → Option Spot
early_others h i [] = None
early_others h i (a ∷ rest) = first_of (if is_committed a.outcome then None else at_place i (fault_in 16 (early_memory h a.at) a)) (early_others h (suc i) rest)

-- the first fault of an attempt, with so many that committed
abbrev pub early_fault : History → ℕ → Option Spot
early_fault h n = first_of (position_fault n [] h.attempts) (first_of (at_fault n 0 h.attempts) (first_of (early_committed h n) (early_others h 0 h.attempts)))

-- the attempt has not ended, and its transaction is irrevocable: it holds the clock
abbrev pub early_holding : History → Attempt → Bool
early_holding h a = is_unfinished a.outcome && (alone 16 (early_memory h a.at) a).irrevocable

-- how many of these attempts hold the clock
abbrev pub early_count : History → List Attempt → ℕ
early_count h [] = 0
early_count h (a ∷ rest) = one_where (early_holding h a) + early_count h rest

-- one that does stands elsewhere than at the last position
abbrev pub early_away : History → ℕ → List Attempt → Bool
early_away h n [] = false
early_away h n (a ∷ rest) = (early_holding h a && not (a.at == n)) || early_away h n rest

-- the clock is free, and the bytes are those that the committed ones leave
abbrev pub early_free : History → ℕ → Bool
early_free h n = (h.clock == 2 * n) && (bytes_eq h.bytes (early_memory h n) && (early_count h h.attempts == 0))

-- or an attempt at the last position holds it, and no other
abbrev pub early_held : History → ℕ → Bool
early_held h n =
    (h.clock == 2 * n + 1)
    && ((length h.bytes == length h.memory) && (is_waiting n h.attempts && (nat_le (early_count h h.attempts) 1 && not (early_away h n h.attempts))))

abbrev pub early_on : History → ℕ → Option Spot → Verdict
early_on h n None = if early_free h n || early_held h n then Legal else Bad (told_row (head_row h.version h.attempts (length h.attempts))) kind.Final
early_on h n (Some spot) = bad h.version h.attempts spot

unfoldable pub early_verdict : History → Verdict
early_verdict h = early_on h (count_committed h.attempts) (early_fault h (count_committed h.attempts))
