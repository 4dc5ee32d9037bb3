-- No attempt of a history has a fault exactly where each is one alone on the memory at its position.
use Rattle.std.proofs.Common.{◌≡◌, ℕ, zero, suc, ◌<◌, ◌≤◌, ◌==◌, Bool, true, false, not, nat_lt, if◌then◌else◌, All, List, [], ◌∷◌, length, get_or, Option, None, refl, sym, ap, subst, ◌∙◌, inl, inr, arith}
use Rattle.history_checker.proofs.Common.{All-cons, All-head, All-nil, All-tail, Attempt, Fault, History, IsAlone, and_parts, and_right, at_fault, at_place, cases_Bool, committed_fault, cond-false, cond-true, count_at, depth_of, eqb-true, fault_at, fault_in, first_of, is_at, is_committed, le-ltb, memory_at, one_where, others_fault}
use Rattle.history_checker.proofs.Legality.Attempts.{alone_from, faultless}
use Rattle.history_checker.proofs.Legality.Positions.{AtMostOnce, at_its_own, counts_there, once_each, once_there}
use Rattle.history_checker.proofs.Steps.Ends.{right_below}
use Rattle.history_checker.proofs.Steps.Firsts.{first_nothing, place_none}
use Rattle.history_checker.proofs.Steps.Tables.{none_beyond, seen_within}

-- ## Snapshots

-- a committed attempt is at a position that there is
committed_below : (n : ℕ) (ts : List Attempt) → AtMostOnce n ts → (j : ℕ) (d : Attempt) → j < length ts → is_committed (get_or ts j d).outcome ≡ true → (get_or ts j d).at < n
committed_below n ts once j d l on = (let a = get_or ts j d in once_there n ts once a.at (counts_there a.at ts j d l (at_its_own a on)))

-- with no fault no attempt saw more commits than there are
pub seen_from : (n : ℕ) (ts : List Attempt) → AtMostOnce n ts → at_fault n 0 ts ≡ None → All (λ (a : Attempt). a.at ≤ n) ts
seen_from n ts once e = λ j d l.
    elim (cases_Bool (is_committed (get_or ts j d).outcome)) [
      | inl on ↦ (let below = committed_below n ts once j d l on in omega (arith, below))
      | inr off ↦ seen_within n (get_or ts j d) off (none_beyond n 0 ts j d e l)
    ]

-- and where none did there is no fault
pub unseen : (n i : ℕ) (ts : List Attempt) → All (λ (a : Attempt). a.at ≤ n) ts → at_fault n i ts ≡ None
unseen n i [] h = refl
unseen n i (a ∷ ts) h =
    rw (and_right (not (is_committed a.outcome)) (nat_lt n a.at) (le-ltb n a.at (All-head (λ (x : Attempt). x.at ≤ n) a ts h))) (unseen n (suc i) ts (All-tail (λ (x : Attempt). x.at ≤ n) a ts h))

-- ## The committed ones

-- with no fault none is found at any position
committed_each : (h : History) (n : ℕ) → committed_fault h n ≡ None → (k : ℕ) → k < n → fault_at (depth_of h.version) (memory_at h k) k 0 h.attempts ≡ None
committed_each h n e k l = (first_nothing (committed_fault h k) (fault_at (depth_of h.version) (memory_at h k) k 0 h.attempts) (right_below h n (suc k) (omega (arith, l)) e)).1

-- and where none is found at any there is none
committed_none : (h : History) (n : ℕ) → ((k : ℕ) → k < n → fault_at (depth_of h.version) (memory_at h k) k 0 h.attempts ≡ None) → committed_fault h n ≡ None
committed_none h zero each = refl
committed_none h (suc n) each =
    let before = committed_none h n (λ k l. each k (omega (arith, l))) in
    let here = each n (omega arith) in
    (λ t. first_of (before t) (here t))

-- where at most one is at the position it is the one that is found
found_right : (deepest : ℕ) (m : List ℕ) (k i : ℕ) (ts : List Attempt) → count_at k ts ≤ 1 → fault_at deepest m k i ts ≡ None → (j : ℕ) (d : Attempt) → j < length ts → is_at k (get_or ts j d) ≡ true → fault_in deepest m (get_or ts j d) ≡ None
found_right deepest m k i [] one e j d l on = absurd (omega (arith, l))
found_right deepest m k i (a ∷ ts) one e zero d l on = place_none i (fault_in deepest m a) (sym (cond-true (is_at k a) (at_place i (fault_in deepest m a)) (fault_at deepest m k (suc i) ts) on) ∙ e)
found_right deepest m k i (a ∷ ts) one e (suc j) d l on =
    let there = counts_there k ts j d (omega (arith, l)) on in
    elim (cases_Bool (is_at k a)) [
      | inl here ↦ (let counts : one_where (is_at k a) ≡ 1 = ap one_where here in absurd (omega (arith, one, counts, there)))
      | inr off ↦ found_right deepest m k (suc i) ts (omega (arith, one)) (sym (cond-false (is_at k a) (at_place i (fault_in deepest m a)) (fault_at deepest m k (suc i) ts) off) ∙ e) j d (omega (arith, l)) on
    ]

-- and where those at the position have none, none is found
right_found : (deepest : ℕ) (m : List ℕ) (k i : ℕ) (ts : List Attempt) → All (λ (a : Attempt). is_at k a ≡ true → fault_in deepest m a ≡ None) ts → fault_at deepest m k i ts ≡ None
right_found deepest m k i [] h = refl
right_found deepest m k i (a ∷ ts) h = elim (cases_Bool (is_at k a)) [
  | inl on ↦ cond-true (is_at k a) (at_place i (fault_in deepest m a)) (fault_at deepest m k (suc i) ts) on ∙ ap (at_place i) (All-head (λ (x : Attempt). is_at k x ≡ true → fault_in deepest m x ≡ None) a ts h on)
  | inr off ↦ cond-false (is_at k a) (at_place i (fault_in deepest m a)) (fault_at deepest m k (suc i) ts) off ∙ right_found deepest m k (suc i) ts (All-tail (λ (x : Attempt). is_at k x ≡ true → fault_in deepest m x ≡ None) a ts h)
]

-- ## The others

-- with no fault none of them has one
others_each : (h : History) (i : ℕ) (ts : List Attempt) → others_fault h i ts ≡ None → All (λ (a : Attempt). is_committed a.outcome ≡ false → fault_in (depth_of h.version) (memory_at h a.at) a ≡ None) ts
others_each h i [] e = All-nil (λ (a : Attempt). is_committed a.outcome ≡ false → fault_in (depth_of h.version) (memory_at h a.at) a ≡ None)
others_each h i (a ∷ ts) e =
    let here = at_place i (fault_in (depth_of h.version) (memory_at h a.at) a) in
    let parts = first_nothing (if is_committed a.outcome then None else here) (others_fault h (suc i) ts) e in
    All-cons (λ (x : Attempt). is_committed x.outcome ≡ false → fault_in (depth_of h.version) (memory_at h x.at) x ≡ None) a ts
    (λ off. place_none i (fault_in (depth_of h.version) (memory_at h a.at) a) (sym (cond-false (is_committed a.outcome) None here off) ∙ parts.0)) (others_each h (suc i) ts parts.1)

-- where it has none, none is told of it
none_either : (b : Bool) (i : ℕ) (f : Option Fault) → f ≡ None → (if b then None else at_place i f) ≡ None
none_either true i f e = refl
none_either false i f e = ap (at_place i) e

-- and where no attempt has one there is none among them
others_none : (h : History) (i : ℕ) (ts : List Attempt) → All (λ (a : Attempt). fault_in (depth_of h.version) (memory_at h a.at) a ≡ None) ts → others_fault h i ts ≡ None
others_none h i [] all = refl
others_none h i (a ∷ ts) all =
    let here = none_either (is_committed a.outcome) i (fault_in (depth_of h.version) (memory_at h a.at) a) (All-head (λ (x : Attempt). fault_in (depth_of h.version) (memory_at h x.at) x ≡ None) a ts all) in
    (λ t. first_of (here t) (others_none h (suc i) ts (All-tail (λ (x : Attempt). fault_in (depth_of h.version) (memory_at h x.at) x ≡ None) a ts all) t))

-- ## All attempts

-- with no fault each attempt is one alone
pub all_alone : (h : History) (n : ℕ) → AtMostOnce n h.attempts → committed_fault h n ≡ None → others_fault h 0 h.attempts ≡ None → All (λ (a : Attempt). IsAlone (depth_of h.version) (memory_at h a.at) a) h.attempts
all_alone h n once committed others = λ j d l.
    let a = get_or h.attempts j d in
    alone_from (depth_of h.version) (memory_at h a.at) a (elim (cases_Bool (is_committed a.outcome)) [
      | inl on ↦ found_right (depth_of h.version) (memory_at h a.at) a.at 0 h.attempts (once_each n h.attempts once a.at) (committed_each h n committed a.at (committed_below n h.attempts once j d l on)) j d l (at_its_own a on)
      | inr off ↦ others_each h 0 h.attempts others j d l off
    ])

-- and where each is there is none among the committed ones
pub committed_faultless : (h : History) (n : ℕ) → All (λ (a : Attempt). IsAlone (depth_of h.version) (memory_at h a.at) a) h.attempts → committed_fault h n ≡ None
committed_faultless h n all = committed_none h n (λ k b. right_found (depth_of h.version) (memory_at h k) k 0 h.attempts (λ j d l on.
    (let a = get_or h.attempts j d in
    let is : a.at ≡ k = eqb-true a.at k (and_parts (is_committed a.outcome) (a.at == k) on).1 in
    subst (λ (x : ℕ). fault_in (depth_of h.version) (memory_at h x) a ≡ None) is (faultless (depth_of h.version) (memory_at h a.at) a (all j d l)))))

-- nor among the others
pub others_faultless : (h : History) → All (λ (a : Attempt). IsAlone (depth_of h.version) (memory_at h a.at) a) h.attempts → others_fault h 0 h.attempts ≡ None
others_faultless h all = others_none h 0 h.attempts (λ j d l. (let a = get_or h.attempts j d in faultless (depth_of h.version) (memory_at h a.at) a (all j d l)))
