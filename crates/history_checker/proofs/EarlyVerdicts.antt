-- A history of the first two versions gets the verdict that it got before there were others.
use Rattle.std.proofs.Common.{◌≡◌, ◌⊎◌, inl, inr, ℕ, zero, suc, ◌+◌, ◌*◌, not, ◌&&◌, ◌||◌, ◌==◌, cond, List, [], ◌∷◌, length, Option, None, Some, refl, ap, ◌∙◌, bytes_eq, nat_le}
use Rattle.history_checker.proofs.Common.{Attempt, Bad, History, Legal, One, Spot, Two, alone, at_fault, at_place, committed_fault, count_committed, count_holding, depth_of, ends_free, ends_held, fault_at, fault_in, first_fault, first_of, head_row, is_away, is_committed, is_holding, is_unfinished, is_waiting, memory_after, memory_at, one_where, others_fault, position_fault, told_row, verdict_of, verdict_on}
use Rattle.history_checker.specs.declared.verdict.BadKind.TheVariants as kind
use Rattle.history_checker.specs.EarlyVerdicts.{early_away, early_committed, early_count, early_fault, early_free, early_held, early_holding, early_memory, early_on, early_others, early_verdict}

memory_same : (h : History) → depth_of h.version ≡ 16 → (k : ℕ) → memory_at h k ≡ early_memory h k
memory_same h d k = λ i. memory_after (d i) h.memory h.attempts k

committed_same : (h : History) → depth_of h.version ≡ 16 → (k : ℕ) → committed_fault h k ≡ early_committed h k
committed_same h d zero = refl
committed_same h d (suc k) = λ i. first_of (committed_same h d k i) (fault_at (d i) (memory_same h d k i) k 0 h.attempts)

others_same : (h : History) → depth_of h.version ≡ 16 → (n : ℕ) (attempts : List Attempt) → others_fault h n attempts ≡ early_others h n attempts
others_same h d n [] = refl
others_same h d n (a ∷ rest) = λ i. first_of (cond (is_committed a.outcome) None (at_place n (fault_in (d i) (memory_same h d a.at i) a))) (others_same h d (suc n) rest i)

fault_same : (h : History) → depth_of h.version ≡ 16 → (n : ℕ) → first_fault h n ≡ early_fault h n
fault_same h d n = λ i. first_of (position_fault n [] h.attempts) (first_of (at_fault n 0 h.attempts) (first_of (committed_same h d n i) (others_same h d 0 h.attempts i)))

holding_same : (h : History) → depth_of h.version ≡ 16 → (a : Attempt) → is_holding h a ≡ early_holding h a
holding_same h d a = λ i. is_unfinished a.outcome && (alone (d i) (memory_same h d a.at i) a).irrevocable

count_same : (h : History) → depth_of h.version ≡ 16 → (attempts : List Attempt) → count_holding h attempts ≡ early_count h attempts
count_same h d [] = refl
count_same h d (a ∷ rest) = λ i. one_where (holding_same h d a i) + count_same h d rest i

away_same : (h : History) → depth_of h.version ≡ 16 → (n : ℕ) (attempts : List Attempt) → is_away h n attempts ≡ early_away h n attempts
away_same h d n [] = refl
away_same h d n (a ∷ rest) = λ i. (holding_same h d a i && not (a.at == n)) || away_same h d n rest i

free_same : (h : History) → depth_of h.version ≡ 16 → (n : ℕ) → ends_free h n ≡ early_free h n
free_same h d n = λ i. (h.clock == 2 * n) && (bytes_eq h.bytes (memory_same h d n i) && (count_same h d h.attempts i == 0))

held_same : (h : History) → depth_of h.version ≡ 16 → (n : ℕ) → ends_held h n ≡ early_held h n
held_same h d n =
    λ i. (h.clock == 2 * n + 1)
    && ((length h.bytes == length h.memory) && (is_waiting n h.attempts && (nat_le (count_same h d h.attempts i) 1 && not (away_same h d n h.attempts i))))

on_same : (h : History) → depth_of h.version ≡ 16 → (n : ℕ) (fault : Option Spot) → verdict_on h n fault ≡ early_on h n fault
on_same h d n None = λ i. cond (free_same h d n i || held_same h d n i) Legal (Bad (told_row (head_row h.version h.attempts (length h.attempts))) kind.Final)
on_same h d n (Some spot) = refl

depth_is : (h : History) → (h.version ≡ One) ⊎ (h.version ≡ Two) → depth_of h.version ≡ 16
depth_is h (inl v) = ap depth_of v
depth_is h (inr v) = ap depth_of v

pub verdict_same : (h : History) → (h.version ≡ One) ⊎ (h.version ≡ Two) → verdict_of h ≡ early_verdict h
unfolding verdict_of early_verdict
verdict_same h v =
    let n = count_committed h.attempts in
    let d = depth_is h v in
    ap (verdict_on h n) (fault_same h d n) ∙ on_same h d n (early_fault h n)
