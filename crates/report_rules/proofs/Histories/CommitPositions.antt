-- The attempts that committed, by their positions, and the bytes that they left.
use Rattle.std.proofs.Common.{inl, inr, ◌≡◌, ℕ, zero, suc, ◌+◌, ◌<◌, ◌≤◌, ◌==◌, ◌&&◌, Bool, true, false, cond, if◌then◌else◌, List, [], ◌∷◌, ◌++◌, length, sym, refl, ap, ◌∙◌, subst, arith, eqb-true}
use Rattle.report_rules.proofs.Common.{AreFew, AreLeft, Attempt, View, alone, both_true, bytes_at, bytes_of, cases_Bool, committed_at, count_at, count_committed, is_at, is_committed, memory_after, memory_left, one_where, positions, times}
use Rattle.std.proofs.lemmas.List.Sums.{sum_by-cons}

-- ## How many

-- an attempt is counted where its position is
pub count_times : (k : ℕ) (xs : List Attempt) → count_at k xs ≡ times k (positions xs)
count_times k [] = refl
count_times k (x ∷ xs) =
    let more = count_times k xs in
    elim (is_committed x.outcome) as (λ (b : Bool). one_where (b && (x.at == k)) + count_at k xs ≡ times k (if b then x.at ∷ positions xs else positions xs)) [
      | true ↦ (let first : one_where (x.at == k) ≡ cond {A = ℕ} (x.at == k) 1 0 = elim (x.at == k) as (λ (b : Bool). one_where b ≡ cond {A = ℕ} b 1 0) [ true ↦ refl | false ↦ refl ] in let s = sum_by-cons (λ (p : ℕ). cond {A = ℕ} (p == k) 1 0) x.at (positions xs) in omega arith)
      | false ↦ omega arith
    ]

pub committed_count : (xs : List Attempt) → count_committed xs ≡ length (positions xs)
committed_count [] = refl
committed_count (x ∷ xs) =
    let more = committed_count xs in
    elim (is_committed x.outcome) as (λ (b : Bool). one_where b + count_committed xs ≡ length (if b then x.at ∷ positions xs else positions xs)) [ true ↦ omega arith | false ↦ omega arith ]

-- ## Below which limit

pub few_both : (most : ℕ) (xs ys : List Attempt) → AreFew most xs → AreFew most ys → AreFew most (xs ++ ys)
few_both most [] ys l m = m
few_both most (x ∷ xs) ys l m = (l.0, few_both most xs ys l.1 m)

-- the position of one that committed is below the limit
pub below_limit : (most k : ℕ) (xs : List Attempt) → AreFew most xs → 0 < count_at k xs → k < most
below_limit most k [] few c = absurd (omega arith)
below_limit most k (x ∷ xs) few c = elim (cases_Bool (is_at k x)) [
  | inl e ↦
      (let is = both_true (is_committed x.outcome) (x.at == k) e in
      let at : x.at ≡ k = eqb-true x.at k is.1 in
      subst (λ (n : ℕ). n < most) at (few.0 is.0))
  | inr e ↦ below_limit most k xs few.1 (let f = simp e at c in omega arith)
]

-- ## What they left

pub left_both : (deepest : ℕ) (v : View) (xs ys : List Attempt) → AreLeft deepest v xs → AreLeft deepest v ys → AreLeft deepest v (xs ++ ys)
left_both deepest v [] ys l m = m
left_both deepest v (x ∷ xs) ys l m = (l.0, left_both deepest v xs ys l.1 m)

-- the attempt that committed next leaves the next bytes
left_next : (deepest : ℕ) (v : View) (k : ℕ) (xs : List Attempt) → AreLeft deepest v xs → 0 < count_at k xs → memory_left deepest (bytes_at v k) (committed_at xs k) ≡ bytes_at v (suc k)
left_next deepest v k [] l c = absurd (omega arith)
left_next deepest v k (x ∷ xs) l c = elim (cases_Bool (is_at k x)) [
  | inl e ↦ simp e
      (let is = both_true (is_committed x.outcome) (x.at == k) e in
      let at : x.at ≡ k = eqb-true x.at k is.1 in
      subst (λ (n : ℕ). (alone deepest (bytes_at v n) x).memory ≡ bytes_at v (suc n)) at (sym (l.0 is.0).leaves))
  | inr e ↦ simp e (left_next deepest v k xs l.1 (let f = simp e at c in omega arith))
]

-- where each position that was seen is that of one attempt, the bytes that they leave are those of the commits
pub memory_is : (deepest : ℕ) (v : View) (opening : List ℕ) (xs : List Attempt) → opening ≡ bytes_of v.base → AreLeft deepest v xs → ((k : ℕ) → k < length v.seen → count_at k xs ≡ 1) → (k : ℕ) → k ≤ length v.seen → memory_after deepest opening xs k ≡ bytes_at v k
memory_is deepest v opening xs base left once zero few = base
memory_is deepest v opening xs base left once (suc k) few =
    ap (λ (m : List ℕ). memory_left deepest m (committed_at xs k)) (memory_is deepest v opening xs base left once k (omega arith))
    ∙ left_next deepest v k xs left (let one = once k (omega arith) in omega arith)
