-- With as many positions as committed attempts, no attempt is misplaced exactly where each position is that of one of them.
use Rattle.std.proofs.Common.{◌≡◌, ℕ, zero, suc, ◌+◌, ◌<◌, ◌≤◌, ◌==◌, Bool, true, false, ◌&&◌, ◌||◌, nat_lt, nat_le, List, [], ◌∷◌, ◌++◌, length, get_or, None, Some, refl, sym, ap, subst, ◌∙◌, inl, inr, arith}
use Rattle.history_checker.proofs.Common.{Attempt, and_cases, and_from, and_left, and_parts, and_right, at_head, at_place, cases_Bool, cases_lt, cases_order, cond-false, count_at, count_committed, eq-eqb, eqb-true, is_at, is_committed, is_misplaced, le-ltb, leb-false, lt-leb, lt-ltb, ltb-false, ltb-true, ne_eqb, one_where, or_from, or_parts, position_fault}
use Rattle.history_checker.specs.declared.verdict.BadKind.TheVariants as kind
use Rattle.history_checker.proofs.Steps.Firsts.{passed_over}

-- ## Counts

-- a test counts once at most
one_most : (b : Bool) → one_where b ≤ 1
one_most true = omega arith
one_most false = omega arith

-- a test that counts is true
one_true : (b : Bool) → 0 < one_where b → b ≡ true
one_true true h = refl
one_true false h = absurd (omega (arith, h))

-- what is committed in two lists one after the other is committed in one of them
count_both : (k : ℕ) (xs ys : List Attempt) → count_at k (xs ++ ys) ≡ count_at k xs + count_at k ys
count_both k [] ys = (let e : count_at k ys ≡ 0 + count_at k ys = omega arith in e)
count_both k (x ∷ xs) ys = (let e = count_both k xs ys in omega arith)

-- a committed attempt is the one at its position
pub at_its_own : (a : Attempt) → is_committed a.outcome ≡ true → is_at a.at a ≡ true
at_its_own a e = and_from (is_committed a.outcome) (a.at == a.at) e (eq-eqb a.at a.at refl)

-- one that stands in a list counts there
pub counts_there : (k : ℕ) (ts : List Attempt) (j : ℕ) (d : Attempt) → j < length ts → is_at k (get_or ts j d) ≡ true → 0 < count_at k ts
counts_there k [] j d l e = absurd (omega (arith, l))
counts_there k (a ∷ ts) zero d l e = (let one : one_where (is_at k a) ≡ 1 = ap one_where e in omega (arith, one))
counts_there k (a ∷ ts) (suc j) d l e = (let later = counts_there k ts j d (omega (arith, l)) e in omega (arith, later))

-- ## No fault

-- at most one attempt is at each position, and none at positions that there are not
abbrev pub AtMostOnce : ℕ → List Attempt → Type 0
AtMostOnce n ts = (k : ℕ) → count_at k ts ≤ one_where (nat_lt k n)

-- each position is taken once at most
pub once_each : (n : ℕ) (ts : List Attempt) → AtMostOnce n ts → (k : ℕ) → count_at k ts ≤ 1
once_each n ts h k = (let here = h k in let one = one_most (nat_lt k n) in omega (arith, here, one))

-- one that is taken is there
pub once_there : (n : ℕ) (ts : List Attempt) → AtMostOnce n ts → (k : ℕ) → 0 < count_at k ts → k < n
once_there n ts h k l = (let here = h k in ltb-true k n (one_true (nat_lt k n) (omega (arith, here, l))))

-- one past the last is not taken
pub none_past : (n : ℕ) (ts : List Attempt) → AtMostOnce n ts → (k : ℕ) → n ≤ k → count_at k ts ≤ 0
none_past n ts h k l = (let here = h k in let none : one_where (nat_lt k n) ≡ 0 = ap one_where (le-ltb k n l) in omega (arith, here, none))

-- where that is so among all, the one behind these is not misplaced
well_placed : (n : ℕ) (before rest : List Attempt) (a : Attempt) → AtMostOnce n (before ++ a ∷ rest) → is_misplaced n before a ≡ false
well_placed n before rest a h = elim (cases_Bool (is_committed a.outcome)) [
  | inr off ↦ and_left (is_committed a.outcome) (nat_le n a.at || nat_lt 0 (count_at a.at before)) off
  | inl on ↦
      let sum = count_both a.at before (a ∷ rest) in
      let one : one_where (is_at a.at a) ≡ 1 = ap one_where (at_its_own a on) in
      let most = once_each n (before ++ a ∷ rest) h a.at in
      let below : a.at < n = once_there n (before ++ a ∷ rest) h a.at (omega (arith, sum, one)) in
      let none : count_at a.at before ≤ 0 = omega (arith, sum, one, most) in
      and_right (is_committed a.outcome) (nat_le n a.at || nat_lt 0 (count_at a.at before))
      (or_from (nat_le n a.at) (nat_lt 0 (count_at a.at before)) (lt-leb n a.at below) (le-ltb 0 (count_at a.at before) none))
]

-- one that is not misplaced is at a position that there is, and that none before it has
placed_parts : (n : ℕ) (before : List Attempt) (a : Attempt) → is_misplaced n before a ≡ false → is_committed a.outcome ≡ true → (a.at < n) × (count_at a.at before ≤ 0)
placed_parts n before a e on = elim (and_cases (is_committed a.outcome) (nat_le n a.at || nat_lt 0 (count_at a.at before)) e) [
  | inl off ↦ (let no : true ≡ false = sym on ∙ off in cc)
  | inr none ↦
      let parts = or_parts (nat_le n a.at) (nat_lt 0 (count_at a.at before)) none in
      (leb-false n a.at parts.0, ltb-false 0 (count_at a.at before) parts.1)
]

-- with one more that is not misplaced it stays so
once_more : (n : ℕ) (before : List Attempt) (a : Attempt) → is_misplaced n before a ≡ false → AtMostOnce n before → AtMostOnce n (before ++ a ∷ [])
once_more n before a e h k = elim (cases_Bool (is_at k a)) [
  | inl on ↦
      let both = and_parts (is_committed a.outcome) (a.at == k) on in
      let parts = placed_parts n before a e both.0 in
      let is : a.at ≡ k = eqb-true a.at k both.1 in
      let free : count_at k before ≤ 0 = subst (λ (x : ℕ). count_at x before ≤ 0) is parts.1 in
      omega (arith, count_both k before (a ∷ []), free, ap one_where on, ap one_where (lt-ltb k n (omega (arith, is, parts.0))))
  | inr off ↦ omega (arith, count_both k before (a ∷ []), ap one_where off, h k)
]

-- with no fault each position is taken once at most
pub once_from : (n : ℕ) (before ts : List Attempt) → position_fault n before ts ≡ None → AtMostOnce n before → AtMostOnce n (before ++ ts)
once_from n before [] e h k = omega (arith, count_both k before [], h k)
once_from n before (a ∷ rest) e h k =
    let parts = passed_over (is_misplaced n before a) _ (position_fault n (before ++ a ∷ []) rest) e in
    let all = once_from n (before ++ a ∷ []) rest parts.1 (once_more n before a parts.0 h) k in
    omega (arith, all, count_both k (before ++ a ∷ []) rest, count_both k before (a ∷ []), count_both k before (a ∷ rest))

-- and where it is there is no fault
pub none_from : (n : ℕ) (before ts : List Attempt) → AtMostOnce n (before ++ ts) → position_fault n before ts ≡ None
none_from n before [] h = refl
none_from n before (a ∷ rest) h =
    cond-false (is_misplaced n before a) (at_place (length before) (Some (at_head kind.Position))) (position_fault n (before ++ a ∷ []) rest) (well_placed n before rest a h)
    ∙ none_from n (before ++ a ∷ []) rest (λ k. (let here = h k in omega (arith, here, count_both k (before ++ a ∷ []) rest, count_both k before (a ∷ []), count_both k before (a ∷ rest))))

-- ## As many as there are

-- how many committed at the positions below m
abbrev count_below : ℕ → List Attempt → ℕ
count_below zero ts = 0
count_below (suc m) ts = count_below m ts + count_at m ts

-- of no attempts none
below_none : (m : ℕ) → count_below m [] ≡ 0
below_none zero = refl
below_none (suc m) = (let e = below_none m in omega (arith, e))

-- below the next number is below this one or at it
below_split : (c : Bool) (x m : ℕ) → one_where (c && nat_lt x (suc m)) ≡ one_where (c && nat_lt x m) + one_where (c && (x == m))
below_split false x m = omega arith
below_split true x m = elim (cases_order x m) [
  | inl is ↦ rw (lt-ltb x (suc m) (omega (arith, is)), le-ltb x m (omega (arith, is)), eq-eqb x m is) (omega arith)
  | inr (inl less) ↦ rw (lt-ltb x (suc m) (omega (arith, less)), lt-ltb x m less, ne_eqb x m (λ is. omega (arith, is, less))) (omega arith)
  | inr (inr more) ↦ rw (le-ltb x (suc m) more, le-ltb x m (omega (arith, more)), ne_eqb x m (λ is. omega (arith, is, more))) (omega arith)
]

-- an attempt at a position below counts once more
below_head : (m : ℕ) (a : Attempt) (ts : List Attempt) → count_below m (a ∷ ts) ≡ one_where (is_committed a.outcome && nat_lt a.at m) + count_below m ts
below_head zero a ts = omega (arith, ap one_where (and_right (is_committed a.outcome) (nat_lt a.at 0) (le-ltb a.at 0 (omega arith))))
below_head (suc m) a ts = (let less = below_head m a ts in omega (arith, less, below_split (is_committed a.outcome) a.at m))

below_one : (c : Bool) (x m : ℕ) → (c ≡ true → x < m) → one_where (c && nat_lt x m) ≡ one_where c
below_one true x m h = ap one_where (lt-ltb x m (h refl))
below_one false x m h = refl

-- where none stands further up, those below are all
below_all : (m : ℕ) (ts : List Attempt) → ((k : ℕ) → m ≤ k → count_at k ts ≤ 0) → count_below m ts ≡ count_committed ts
below_all m [] h = below_none m
below_all m (a ∷ ts) h =
    let later = below_all m ts (λ k l. (let both = h k l in omega (arith, both))) in
    omega (
      arith,
      later,
      below_head m a ts,
      below_one (is_committed a.outcome) a.at m (λ on. elim (cases_lt a.at m) [
        | inl b ↦ b
        | inr g ↦ (let there : one_where (is_at a.at a) ≡ 1 = ap one_where (at_its_own a on) in let none = h a.at g in absurd (omega (arith, there, none)))
      ]),
    )

-- with at most one at each position there are no more than positions
below_most : (m : ℕ) (ts : List Attempt) → ((k : ℕ) → count_at k ts ≤ 1) → count_below m ts ≤ m
below_most zero ts h = omega arith
below_most (suc m) ts h = (let less = below_most m ts h in let here = h m in omega (arith, less, here))

-- and as many where each has one
below_each : (m : ℕ) (ts : List Attempt) → ((k : ℕ) → count_at k ts ≤ 1) → count_below m ts ≡ m → (k : ℕ) → k < m → count_at k ts ≡ 1
below_each zero ts h e k l = absurd (omega (arith, l))
below_each (suc m) ts h e k l =
    let less = below_most m ts h in
    let here = h m in
    elim (cases_lt k m) [
      | inl b ↦ below_each m ts h (omega (arith, less, here, e)) k b
      | inr g ↦ (let is : m ≡ k = omega (arith, l, g) in subst (λ (x : ℕ). count_at x ts ≡ 1) is (omega (arith, less, here, e)))
    ]

-- so with as many positions as committed attempts each has one
pub each_once : (ts : List Attempt) → AtMostOnce (count_committed ts) ts → (k : ℕ) → count_at k ts ≡ one_where (nat_lt k (count_committed ts))
each_once ts h k =
    let n = count_committed ts in
    elim (cases_lt k n) [
      | inl b ↦ below_each n ts (once_each n ts h) (below_all n ts (none_past n ts h)) k b ∙ sym (ap one_where (lt-ltb k n b))
      | inr g ↦ omega (arith, none_past n ts h k g, ap one_where (le-ltb k n g))
    ]
