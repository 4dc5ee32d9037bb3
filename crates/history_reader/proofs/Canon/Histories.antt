-- The canonical history of a legal one is legal.
use Rattle.std.proofs.Common.{◌≡◌, ◌⊎◌, inl, inr, ℕ, zero, suc, ◌+◌, ◌≤◌, Bool, true, false, ◌&&◌, if◌then◌else◌, nat_lt, List, [], ◌∷◌, map, All, Option, None, Some, refl, sym, ap, subst, ◌∙◌}
use Rattle.history_reader.proofs.Common.{All-map, All-weaker, Attempt, EndsFree, EndsHeld, History, IsAlone, IsLegal, alone, canonical, canonical_attempt, committed_at, count_at, count_committed, count_holding, is_at, is_committed, is_holding, is_unfinished, map-append, memory_after, memory_at, memory_left, one_where, option_map}
use Rattle.itm_model.specs.State.{State}
use Rattle.history_reader.{proofs.Canon.Runs.same_alone, proofs.Canon.Attempts.canonical_alone}
use Rattle.tx_history.specs.Versions.{depth_of}

-- ## Positions

same_count_at : (k : ℕ) (all : List Attempt) → count_at k (map canonical_attempt all) ≡ count_at k all
same_count_at k [] = refl
same_count_at k (a ∷ rest) = ap (λ (n : ℕ). one_where (is_at k a) + n) (same_count_at k rest)

same_count : (all : List Attempt) → count_committed (map canonical_attempt all) ≡ count_committed all
same_count [] = refl
same_count (a ∷ rest) = ap (λ (n : ℕ). one_where (is_committed a.outcome) + n) (same_count rest)

-- ## Memory

same_committed : (k : ℕ) (all : List Attempt) → committed_at (map canonical_attempt all) k ≡ option_map canonical_attempt (committed_at all k)
same_committed k [] = refl
same_committed k (a ∷ rest) = by_test (same_committed k rest) (is_at k a)
  where
    by_test : committed_at (map canonical_attempt rest) k ≡ option_map canonical_attempt (committed_at rest k) → (b : Bool) → (if b then Some (canonical_attempt a) else committed_at (map canonical_attempt rest) k) ≡ option_map canonical_attempt (if b then Some a else committed_at rest k)
    by_test later true = refl
    by_test later false = later

same_left : (deepest : ℕ) (memory : List ℕ) (o : Option Attempt) → memory_left deepest memory (option_map canonical_attempt o) ≡ memory_left deepest memory o
same_left deepest memory None = refl
same_left deepest memory (Some a) = ap (λ (s : State). s.memory) (same_alone deepest memory a)

same_memory : (deepest : ℕ) (base : List ℕ) (all : List Attempt) (k : ℕ) → memory_after deepest base (map canonical_attempt all) k ≡ memory_after deepest base all k
same_memory deepest base all zero = refl
same_memory deepest base all (suc k) =
    (λ i. memory_left deepest (same_memory deepest base all k i) (same_committed k all i))
    ∙ same_left deepest (memory_after deepest base all k) (committed_at all k)

module _ (h : History) where
  same_at : (k : ℕ) → memory_at (canonical h) k ≡ memory_at h k
  same_at k = same_memory (depth_of h.version) h.memory h.attempts k

  -- ## Who holds the clock

  same_holding : (a : Attempt) → is_holding (canonical h) (canonical_attempt a) ≡ is_holding h a
  same_holding a = ap (λ (s : State). is_unfinished a.outcome && s.irrevocable) (ap (λ (m : List ℕ). alone (depth_of h.version) m (canonical_attempt a)) (same_at a.at) ∙ same_alone (depth_of h.version) (memory_at h a.at) a)

  same_holders : (all : List Attempt) → count_holding (canonical h) (map canonical_attempt all) ≡ count_holding h all
  same_holders [] = refl
  same_holders (a ∷ rest) = λ i. one_where (same_holding a i) + same_holders rest i

  -- ## The last line

  free : (n : ℕ) → EndsFree h n → EndsFree (canonical h) n
  free n e = record {
    clock = e.clock;
    bytes = e.bytes ∙ sym (same_at n);
    holding = same_holders h.attempts ∙ e.holding;
  }

  held : (n : ℕ) → EndsHeld h n → EndsHeld (canonical h) n
  held n e = record {
    clock = e.clock;
    bytes = e.bytes;
    holder = (
      map canonical_attempt e.holder.0,
      map canonical_attempt e.holder.1,
      canonical_attempt e.holder.2,
      ap (map canonical_attempt) e.holder.3 ∙ map-append canonical_attempt e.holder.0 (e.holder.2 ∷ e.holder.1),
      e.holder.4,
      e.holder.5,
    );
    holding = subst (λ (k : ℕ). k ≤ 1) (sym (same_holders h.attempts)) e.holding;
    there = All-map (λ (a : Attempt). is_holding (canonical h) a ≡ true → a.at ≡ n) canonical_attempt h.attempts
        (All-weaker (λ (a : Attempt). is_holding h a ≡ true → a.at ≡ n) (λ (a : Attempt). is_holding (canonical h) (canonical_attempt a) ≡ true → a.at ≡ n)
        (λ a f t. f (sym (same_holding a) ∙ t)) h.attempts e.there);
  }

  ends : (n : ℕ) → EndsFree h n ⊎ EndsHeld h n → EndsFree (canonical h) n ⊎ EndsHeld (canonical h) n
  ends n (inl e) = inl (free n e)
  ends n (inr e) = inr (held n e)

  pub canonical_legal : IsLegal h → IsLegal (canonical h)
  canonical_legal l = record {
    positions = λ k. same_count_at k h.attempts ∙ l.positions k ∙ ap (λ (n : ℕ). one_where (nat_lt k n)) (sym (same_count h.attempts));
    others = All-map (λ (a : Attempt). a.at ≤ count_committed (map canonical_attempt h.attempts)) canonical_attempt h.attempts
        (subst (λ (n : ℕ). All (λ (a : Attempt). a.at ≤ n) h.attempts) (sym (same_count h.attempts)) l.others);
    alone = All-map (λ (a : Attempt). IsAlone (depth_of h.version) (memory_at (canonical h) a.at) a) canonical_attempt h.attempts
        (All-weaker (λ (a : Attempt). IsAlone (depth_of h.version) (memory_at h a.at) a) (λ (a : Attempt). IsAlone (depth_of h.version) (memory_at (canonical h) a.at) (canonical_attempt a))
        (λ a f. subst (λ (m : List ℕ). IsAlone (depth_of h.version) m (canonical_attempt a)) (sym (same_at a.at)) (canonical_alone (depth_of h.version) (memory_at h a.at) a f)) h.attempts l.alone);
    final = subst (λ (n : ℕ). EndsFree (canonical h) n ⊎ EndsHeld (canonical h) n) (sym (same_count h.attempts)) (ends (count_committed h.attempts) l.final);
  }
