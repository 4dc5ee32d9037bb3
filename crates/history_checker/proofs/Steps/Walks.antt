-- The attempts that a walk meets at a position.
use Rattle.std.proofs.Common.{◌≡◌, inl, inr, ℕ, zero, suc, ◌+◌, ◌<◌, ◌≤◌, Bool, true, false, not, ◌==◌, if◌then◌else◌, List, [], ◌∷◌, length, get_or, take, refl, ap, sym, subst, ◌∙◌, arith, add-one, Option, None, Some}
use Rattle.history_checker.proofs.Common.{AreTold, Attempt, History, IsTold, Spot, Told, and_cases, and_parts, at_place, cases_Bool, cases_eq, cases_lt, committed_at, cond-false, depth_of, eq-eqb, eqb-true, fault_at, fault_in, first_at, get_or-set_other, is_at, is_committed, is_other, last_other, length-set, memory_at, not-false, not-true, nothing_told, set, told_of, told_on}
use Rattle.std.{proofs.lemmas.Grind.get_or-set_at, proofs.lemmas.List.get_or_default}
use Rattle.history_checker.proofs.Steps.Tables.{last_next}

-- ## The committed one

-- what is at a place in the list of attempts from a number on: it is committed, and is the one that is kept and whose fault is told
abbrev IsFound : ℕ → List ℕ → ℕ → List Attempt → Option ℕ → Option Attempt → Option Spot → Type 0
IsFound deepest m n ts None kept fault = (kept ≡ None) × (fault ≡ None)
IsFound deepest m n ts (Some p) kept fault =
    (i : ℕ) × (p ≡ n + i) × (i < length ts) × ((d : Attempt) → (is_committed (get_or ts i d).outcome ≡ true) × (kept ≡ Some (get_or ts i d)) × (fault ≡ at_place p (fault_in deepest m (get_or ts i d))))

found_later : (deepest : ℕ) (m : List ℕ) (n : ℕ) (b : Attempt) (ts : List Attempt) (o : Option ℕ) (kept : Option Attempt) (fault : Option Spot) → IsFound deepest m (suc n) ts o kept fault → IsFound deepest m n (b ∷ ts) o kept fault
found_later deepest m n b ts None kept fault f = f
found_later deepest m n b ts (Some p) kept fault f = (suc f.0, omega (arith, f.1), omega (arith, f.2), f.3)

found_from : (deepest : ℕ) (m : List ℕ) (k n : ℕ) (ts : List Attempt) → IsFound deepest m n ts (first_at n ts k) (committed_at ts k) (fault_at deepest m k n ts)
found_from deepest m k n [] = (refl, refl)
found_from deepest m k n (b ∷ ts) = elim (cases_Bool (is_at k b)) [
  | inl on ↦ rw on (0, omega arith, omega arith, λ d. ((and_parts (is_committed b.outcome) (b.at == k) on).0, refl, refl))
  | inr off ↦ rw off (found_later deepest m n b ts (first_at (suc n) ts k) (committed_at ts k) (fault_at deepest m k (suc n) ts) (found_from deepest m k (suc n) ts))
]

found_at : (deepest : ℕ) (m : List ℕ) (k : ℕ) (ts : List Attempt) (o : Option ℕ) → first_at 0 ts k ≡ o → IsFound deepest m 0 ts o (committed_at ts k) (fault_at deepest m k 0 ts)
found_at deepest m k ts o e = subst (λ (x : Option ℕ). IsFound deepest m 0 ts x (committed_at ts k) (fault_at deepest m k 0 ts)) e (found_from deepest m k 0 ts)

pub found_none : (deepest : ℕ) (m : List ℕ) (k : ℕ) (ts : List Attempt) → first_at 0 ts k ≡ None → (committed_at ts k ≡ None) × (fault_at deepest m k 0 ts ≡ None)
found_none deepest m k ts e = found_at deepest m k ts None e

-- its place is one of the list
pub found_in : (ts : List Attempt) (k i : ℕ) → first_at 0 ts k ≡ Some i → i < length ts
found_in ts k i e = let f = found_at 0 [] k ts (Some i) e in omega (arith, f.1, f.2)

pub found_there : (deepest : ℕ) (m : List ℕ) (k : ℕ) (ts : List Attempt) (i : ℕ) (d : Attempt) → first_at 0 ts k ≡ Some i → (is_committed (get_or ts i d).outcome ≡ true) × (committed_at ts k ≡ Some (get_or ts i d)) × (fault_at deepest m k 0 ts ≡ at_place i (fault_in deepest m (get_or ts i d)))
found_there deepest m k ts i d e =
    let f = found_at deepest m k ts (Some i) e in
    let is : f.0 ≡ i = omega (arith, f.1) in
    subst (λ (j : ℕ). (is_committed (get_or ts j d).outcome ≡ true) × (committed_at ts k ≡ Some (get_or ts j d)) × (fault_at deepest m k 0 ts ≡ at_place i (fault_in deepest m (get_or ts j d)))) is (f.3 d)

-- ## The others

-- how many attempts may be met from one on
abbrev pub left_of : Option ℕ → ℕ
left_of None = 0
left_of (Some i) = suc i

abbrev IsOther : List Attempt → ℕ → Attempt → Option ℕ → Type 0
IsOther ts k d None = Unit {0}
IsOther ts k d (Some i) = is_other k (get_or ts i d) ≡ true

-- what is known of the last of so many attempts that saw k commits: behind it are no more
abbrev IsLatest : List Attempt → ℕ → ℕ → Attempt → Option ℕ → Type 0
IsLatest ts k c d o = (left_of o ≤ c) × IsOther ts k d o × ((j : ℕ) → left_of o ≤ j → j < c → is_other k (get_or ts j d) ≡ false)

latest_case : (ts : List Attempt) (k c : ℕ) (d : Attempt) (b : Bool) → is_other k (get_or ts c d) ≡ b → (o : Option ℕ) → IsLatest ts k c d o → IsLatest ts k (suc c) d (if b then Some c else o)
latest_case ts k c d true on o f = (omega arith, on, λ j h l. absurd (omega (arith, h, l)))
latest_case ts k c d false off o f = (omega (arith, f.0), f.1, λ j h l. elim (cases_lt j c) [ inl b ↦ f.2 j h b | inr g ↦ let is : j ≡ c = omega (arith, l, g) in ap (λ (m : ℕ). is_other k (get_or ts m d)) is ∙ off ])

latest : (ts : List Attempt) (k c : ℕ) (d : Attempt) → c ≤ length ts → IsLatest ts k c d (last_other 0 (take c ts) k)
latest ts k zero d h = (omega arith, tt, λ j h l. absurd (omega (arith, l)))
latest ts k (suc c) d h =
    let step : last_other 0 (take (suc c) ts) k ≡ (if is_other k (get_or ts c d) then Some c else last_other 0 (take c ts) k) = rw (← add-one) (last_next ts c d k (omega (arith, h))) in
    subst (IsLatest ts k (suc c) d) (sym step) (latest_case ts k c d (is_other k (get_or ts c d)) refl (last_other 0 (take c ts) k) (latest ts k c d (omega (arith, h))))

latest_is : (ts : List Attempt) (k c : ℕ) (d : Attempt) (o : Option ℕ) → c ≤ length ts → last_other 0 (take c ts) k ≡ o → IsLatest ts k c d o
latest_is ts k c d o w e = subst (IsLatest ts k c d) e (latest ts k c d w)

-- one of them is not committed, and saw so many
other_is : (k : ℕ) (a : Attempt) → is_other k a ≡ true → (is_committed a.outcome ≡ false) × (a.at ≡ k)
other_is k a on = let parts = and_parts (not (is_committed a.outcome)) (a.at == k) on in (not-true (is_committed a.outcome) parts.0, eqb-true a.at k parts.1)

-- it is not one of them, and saw so many: it is committed
committed_then : (k : ℕ) (a : Attempt) → is_other k a ≡ false → a.at ≡ k → is_committed a.outcome ≡ true
committed_then k a off at = elim (and_cases (not (is_committed a.outcome)) (a.at == k) off) [
  | inl was ↦ not-false (is_committed a.outcome) was
  | inr far ↦ (let no : true ≡ false = sym (eq-eqb a.at k at) ∙ far in cc)
]

-- one is told
told_other : (h : History) (k : ℕ) (a : Attempt) → is_other k a ≡ true → told_on (depth_of h.version) (memory_at h k) a ≡ told_of h a
told_other h k a on =
    let parts = other_is k a on in
    ap (λ (n : ℕ). told_on (depth_of h.version) (memory_at h n) a) (sym parts.1) ∙ sym (cond-false (is_committed a.outcome) nothing_told (told_on (depth_of h.version) (memory_at h a.at) a) parts.0)

-- what is told, of all behind the last of so many
told_behind_it : (h : History) (k c : ℕ) (o : Option ℕ) (told : List Told) (d : Attempt) → AreTold h k c told → IsLatest h.attempts k c d o → (j : ℕ) → j < length h.attempts → IsTold k (left_of o) j (get_or h.attempts j d)
    → get_or told j nothing_told ≡ told_of h (get_or h.attempts j d)
told_behind_it h k c o told d t l j b (inl committed) = t.each j d b (inl committed)
told_behind_it h k c o told d t l j b (inr (inl below)) = t.each j d b (inr (inl below))
told_behind_it h k c o told d t l j b (inr (inr here)) = elim (cases_lt j c) [
  | inl before ↦ t.each j d b (inl (committed_then k (get_or h.attempts j d) (l.2 j here.1 before) here.0))
  | inr from ↦ t.each j d b (inr (inr (here.0, from)))
]

told_here : (h : History) (k i : ℕ) (told : List Told) (d : Attempt) → i < length told → i < length h.attempts → is_other k (get_or h.attempts i d) ≡ true → (j : ℕ) (e : Attempt) → j ≡ i
    → get_or (set told i (told_on (depth_of h.version) (memory_at h k) (get_or h.attempts i d))) j nothing_told ≡ told_of h (get_or h.attempts j e)
told_here h k i told d b b' on j e is =
    get_or-set_at told i j (told_on (depth_of h.version) (memory_at h k) (get_or h.attempts i d)) nothing_told is b
    ∙ (told_other h k (get_or h.attempts i d) on
    ∙ (ap (told_of h) (get_or_default h.attempts i d e b') ∙ ap (λ (m : ℕ). told_of h (get_or h.attempts m e)) (sym is)))

one_behind : (k i j : ℕ) (a : Attempt) → (j ≡ i → ⊥) → IsTold k i j a → IsTold k (suc i) j a
one_behind k i j a ne (inl committed) = inl committed
one_behind k i j a ne (inr (inl below)) = inr (inl below)
one_behind k i j a ne (inr (inr here)) = inr (inr (here.0, omega (arith, ne, here.1)))

-- one more is told
told_step : (h : History) (k c i : ℕ) (told : List Told) (d : Attempt) → c ≤ length h.attempts → AreTold h k c told → last_other 0 (take c h.attempts) k ≡ Some i
    → AreTold h k i (set told i (told_on (depth_of h.version) (memory_at h k) (get_or h.attempts i d)))
told_step h k c i told d w t e =
    let new = told_on (depth_of h.version) (memory_at h k) (get_or h.attempts i d) in
    let found = λ (f : Attempt). latest_is h.attempts k c f (Some i) w e in
    let there : i < length h.attempts = omega (arith, (found d).0, w) in
    record {
      size = length-set told i new ∙ t.size;
      each = λ j f b told_j. elim (cases_eq j i) [
        | inl is ↦ told_here h k i told d (omega (arith, there, t.size)) there (found d).1 j f is
        | inr ne ↦ get_or-set_other told i j new nothing_told ne ∙ told_behind_it h k c (Some i) told f t (found f) j b (one_behind k i j (get_or h.attempts j f) ne told_j)
      ];
    }

all_behind : (k n j : ℕ) (a : Attempt) → j < n → IsTold (suc k) n j a → IsTold k 0 j a
all_behind k n j a b (inl committed) = inl committed
all_behind k n j a b (inr (inr here)) = absurd (omega (arith, b, here.1))
all_behind k n j a b (inr (inl below)) = elim (cases_lt a.at k) [ inl less ↦ inr (inl less) | inr more ↦ inr (inr (omega (arith, below, more), omega arith)) ]

-- the one that a walk meets next: all behind it that saw as many are told
pub record IsNext (h : History) (k : ℕ) (told : List Told) (next : Option ℕ) : Type 0 where
  pub from : ℕ
  pub within : from ≤ length h.attempts
  pub there : next ≡ last_other 0 (take from h.attempts) k
  pub told_behind : AreTold h k from told

-- what is known of it
pub next_is : (h : History) (k : ℕ) (told : List Told) (i : ℕ) (d : Attempt) → IsNext h k told (Some i) → (i < length h.attempts) × (is_committed (get_or h.attempts i d).outcome ≡ false) × ((get_or h.attempts i d).at ≡ k)
next_is h k told i d n =
    let found = latest_is h.attempts k n.from d (Some i) n.within (sym n.there) in
    let parts = other_is k (get_or h.attempts i d) found.1 in
    (omega (arith, found.0, n.within), parts.0, parts.1)

pub next_then : (h : History) (k : ℕ) (told : List Told) (i : ℕ) (d : Attempt) (next : Option ℕ) → IsNext h k told (Some i) → next ≡ last_other 0 (take i h.attempts) k
    → IsNext h k (set told i (told_on (depth_of h.version) (memory_at h k) (get_or h.attempts i d))) next
next_then h k told i d next n e = record {
  from = i;
  within = let w = (next_is h k told i d n).0 in omega (arith, w);
  there = e;
  told_behind = told_step h k n.from i told d n.within n.told_behind (sym n.there);
}

-- where there is none, all that saw so many are told
pub next_none : (h : History) (k : ℕ) (told : List Told) → IsNext h k told None → AreTold h (suc k) (length h.attempts) told
next_none h k told n = record {
  size = n.told_behind.size;
  each = λ j f b told_j. told_behind_it h k n.from None told f n.told_behind (latest_is h.attempts k n.from f None n.within (sym n.there)) j b (all_behind k (length h.attempts) j (get_or h.attempts j f) b told_j);
}

pub fewer_left : (h : History) (k i : ℕ) (next : Option ℕ) (d : Attempt) → i ≤ length h.attempts → next ≡ last_other 0 (take i h.attempts) k → left_of next < suc i
fewer_left h k i next d w e = omega (arith, (latest_is h.attempts k i d next w (sym e)).0)

-- the last of so many that saw k commits is one of them
below_from : (ts : List Attempt) (k c i : ℕ) → c ≤ length ts → last_other 0 (take c ts) k ≡ Some i → i < length ts
below_from [] k zero i w e = cc
below_from [] k (suc c) i w e = absurd (omega (arith, w))
below_from (t ∷ ts) k c i w e = omega (arith, (latest_is (t ∷ ts) k c t (Some i) w e).0, w)

pub next_in : (h : History) (k : ℕ) (told : List Told) (i : ℕ) → IsNext h k told (Some i) → i < length h.attempts
next_in h k told i n = below_from h.attempts k n.from i n.within (sym n.there)
