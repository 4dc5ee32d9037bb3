-- Tables of attempts, with one attempt more.
use Rattle.std.proofs.Common.{◌≡◌, inl, inr, ℕ, zero, suc, ◌+◌, ◌<◌, ◌≤◌, Bool, true, false, not, ◌&&◌, ◌||◌, ◌==◌, nat_lt, nat_le, if◌then◌else◌, is_some, List, [], ◌∷◌, ◌++◌, length, get_or, take, drop, refl, ap, sym, ◌∙◌, arith, add-one, zero-add, drop-cons, length-append, Option, None, Some}
use Rattle.history_checker.proofs.Common.{AreLinks, AreSlots, Attempt, at_fault, at_head, at_place, cases_eq, cases_lt, cond-false, cond-true, count_at, count_committed, eq-eqb, eqb-true, first_at, first_of, get_or-append_seam, get_or-set_other, get_or_append_left, is_at, is_beyond, is_committed, is_misplaced, is_other, last_other, le-leb, length-set, length-take-le, lt-ltb, ne_eqb, one_where, position_fault, set, take-suc}
use Rattle.history_checker.specs.declared.verdict.BadKind.TheVariants as kind
use Rattle.std.{proofs.lemmas.Grind.get_or-set_at, proofs.lemmas.List.get_or_default}
use Rattle.history_checker.proofs.Steps.Firsts.{passed_over}

-- ## Counts

count_suc : (ts : List Attempt) (i : ℕ) (d : Attempt) → i < length ts → count_committed (take (suc i) ts) ≡ count_committed (take i ts) + one_where (is_committed (get_or ts i d).outcome)
count_suc [] i d h = absurd (omega (arith, h))
count_suc (a ∷ ts) zero d h = omega arith
count_suc (a ∷ ts) (suc i) d h = let rest = count_suc ts i d (omega (arith, h)) in omega arith

pub count_next : (ts : List Attempt) (i : ℕ) (d : Attempt) → i < length ts → count_committed (take (i + 1) ts) ≡ count_committed (take i ts) + one_where (is_committed (get_or ts i d).outcome)
count_next ts i d h = rw (add-one) (count_suc ts i d h)

-- ## Positions

pub first_snoc : (i : ℕ) (xs : List Attempt) (a : Attempt) (k : ℕ) → first_at i (xs ++ a ∷ []) k ≡ first_of (first_at i xs k) (if is_at k a then Some (i + length xs) else None)
first_snoc i [] a k = let e : i ≡ i + 0 = omega arith in ap (λ (n : ℕ). if is_at k a then Some n else None) e
first_snoc i (x ∷ xs) a k =
    let e : suc i + length xs ≡ i + suc (length xs) = omega arith in
    let rest : first_at (suc i) (xs ++ a ∷ []) k ≡ first_of (first_at (suc i) xs k) (if is_at k a then Some (i + suc (length xs)) else None) =
    first_snoc (suc i) xs a k ∙ ap (λ (n : ℕ). first_of (first_at (suc i) xs k) (if is_at k a then Some n else None)) e in
    elim (is_at k x) as (λ b. (if b then Some i else first_at (suc i) (xs ++ a ∷ []) k) ≡ first_of (if b then Some i else first_at (suc i) xs k) (if is_at k a then Some (i + suc (length xs)) else None)) [ true ↦ refl | false ↦ rest ]

pub counted_found : (i : ℕ) (xs : List Attempt) (k : ℕ) → nat_lt 0 (count_at k xs) ≡ is_some (first_at i xs k)
counted_found i [] k = refl
counted_found i (x ∷ xs) k =
    elim (is_at k x) as (λ b. nat_lt 0 (one_where b + count_at k xs) ≡ is_some (if b then Some i else first_at (suc i) xs k)) [
      | true ↦ lt-ltb 0 (1 + count_at k xs) (omega arith)
      | false ↦ ap (nat_lt 0) (zero-add (count_at k xs)) ∙ counted_found (suc i) xs k
    ]

-- the attempts up to one more
pub taken_next : (ts : List Attempt) (i : ℕ) (d : Attempt) → i < length ts → take (i + 1) ts ≡ take i ts ++ get_or ts i d ∷ []
taken_next ts i d h = rw (add-one) (take-suc ts i d h)

pub first_next : (ts : List Attempt) (i : ℕ) (d : Attempt) (k : ℕ) → i < length ts → first_at 0 (take (i + 1) ts) k ≡ first_of (first_at 0 (take i ts) k) (if is_at k (get_or ts i d) then Some i else None)
first_next ts i d k h =
    let n : 0 + length (take i ts) ≡ i = omega (arith, length-take-le i ts (omega (arith, h))) in
    ap (λ (xs : List Attempt). first_at 0 xs k) (taken_next ts i d h) ∙ (first_snoc 0 (take i ts) (get_or ts i d) k ∙ ap (λ (m : ℕ). first_of (first_at 0 (take i ts) k) (if is_at k (get_or ts i d) then Some m else None)) n)

-- one that is in its place
pub position_next : (n : ℕ) (ts : List Attempt) (i : ℕ) (d : Attempt) → i < length ts → is_misplaced n (take i ts) (get_or ts i d) ≡ false
    → position_fault n (take i ts) (drop i ts) ≡ position_fault n (take (i + 1) ts) (drop (i + 1) ts)
position_next n ts i d h e =
    ap (position_fault n (take i ts)) (drop-cons ts i d h)
    ∙ (cond-false (is_misplaced n (take i ts) (get_or ts i d)) _ _ e
    ∙ (ap (λ (xs : List Attempt). position_fault n xs (drop (suc i) ts)) (sym (taken_next ts i d h))
    ∙ rw (add-one) refl))

pub position_here : (n : ℕ) (ts : List Attempt) (i : ℕ) (d : Attempt) → i < length ts → is_misplaced n (take i ts) (get_or ts i d) ≡ true
    → position_fault n (take i ts) (drop i ts) ≡ at_place i (Some (at_head kind.Position))
position_here n ts i d h e =
    ap (position_fault n (take i ts)) (drop-cons ts i d h)
    ∙ (cond-true (is_misplaced n (take i ts) (get_or ts i d)) _ _ e
    ∙ ap (λ (m : ℕ). at_place m (Some (at_head kind.Position))) (length-take-le i ts (omega (arith, h))))

-- ## Snapshots

pub last_snoc : (i : ℕ) (xs : List Attempt) (a : Attempt) (k : ℕ) → last_other i (xs ++ a ∷ []) k ≡ (if is_other k a then Some (i + length xs) else last_other i xs k)
last_snoc i [] a k =
    let e : i ≡ i + 0 = omega arith in ap (λ (n : ℕ). if is_other k a then Some n else None) e
last_snoc i (x ∷ xs) a k =
    let e : suc i + length xs ≡ i + suc (length xs) = omega arith in
    let other = if is_other k x then Some i else None in
    let rest : last_other (suc i) (xs ++ a ∷ []) k ≡ (if is_other k a then Some (i + suc (length xs)) else last_other (suc i) xs k) =
    last_snoc (suc i) xs a k ∙ ap (λ (n : ℕ). if is_other k a then Some n else last_other (suc i) xs k) e in
    ap (λ o. first_of o other) rest
    ∙ elim (is_other k a) as (λ b. first_of (if b then Some (i + suc (length xs)) else last_other (suc i) xs k) other ≡ (if b then Some (i + suc (length xs)) else first_of (last_other (suc i) xs k) other)) [ true ↦ refl | false ↦ refl ]

pub last_next : (ts : List Attempt) (i : ℕ) (d : Attempt) (k : ℕ) → i < length ts → last_other 0 (take (i + 1) ts) k ≡ (if is_other k (get_or ts i d) then Some i else last_other 0 (take i ts) k)
last_next ts i d k h =
    let n : 0 + length (take i ts) ≡ i = omega (arith, length-take-le i ts (omega (arith, h))) in
    ap (λ (xs : List Attempt). last_other 0 xs k) (taken_next ts i d h) ∙ (last_snoc 0 (take i ts) (get_or ts i d) k ∙ ap (λ (m : ℕ). if is_other k (get_or ts i d) then Some m else last_other 0 (take i ts) k) n)

-- ## Tables

-- a table in which one place is set
set_there : (table : List (Option ℕ)) (at i k : ℕ) → k < length table → get_or (set table at (Some i)) k None ≡ (if at == k then Some i else get_or table k None)
set_there table at i k l = elim (cases_eq k at) [
  | inl is ↦ rw (eq-eqb at k (sym is)) (get_or-set_at table at k (Some i) None is (omega (arith, l, is)))
  | inr ne ↦ rw (ne_eqb at k (λ e. ne (sym e))) (get_or-set_other table at k (Some i) None ne)
]

set_free : (b : Bool) (i : ℕ) (o : Option ℕ) → (b ≡ true → o ≡ None) → (if b then Some i else o) ≡ first_of o (if b then Some i else None)
set_free true i o free = ap (λ (x : Option ℕ). first_of x (Some i)) (sym (free refl))
set_free false i None free = refl
set_free false i (Some x) free = refl

pub slots_same : (n : ℕ) (ts : List Attempt) (i : ℕ) (d : Attempt) (slots : List (Option ℕ)) → i < length ts → is_committed (get_or ts i d).outcome ≡ false
    → AreSlots n (take i ts) slots → AreSlots n (take (i + 1) ts) slots
slots_same n ts i d slots h e s = record {
  size = s.size;
  each = λ k l. let off : is_at k (get_or ts i d) ≡ false = ap (λ b. b && ((get_or ts i d).at == k)) e in
      s.each k l ∙ (set_free false i (first_at 0 (take i ts) k) (λ no. absurd (cc)) ∙ ((λ t. first_of (first_at 0 (take i ts) k) (if sym off t then Some i else None)) ∙ sym (first_next ts i d k h)));
}

pub slots_next : (n : ℕ) (ts : List Attempt) (i : ℕ) (d : Attempt) (slots : List (Option ℕ)) → i < length ts → is_committed (get_or ts i d).outcome ≡ true
    → get_or slots (get_or ts i d).at None ≡ None → AreSlots n (take i ts) slots → AreSlots n (take (i + 1) ts) (set slots (get_or ts i d).at (Some i))
slots_next n ts i d slots h e free s = record {
  size = length-set slots (get_or ts i d).at (Some i) ∙ s.size;
  each = λ k l.
      let a = get_or ts i d in
      let at : is_at k a ≡ (a.at == k) = ap (λ b. b && (a.at == k)) e in
      set_there slots a.at i k (omega (arith, s.size, l))
      ∙ (set_free (a.at == k) i (get_or slots k None) (λ on. ap (λ (m : ℕ). get_or slots m None) (sym (eqb-true a.at k on)) ∙ free)
      ∙ ((λ t. first_of (s.each k l t) (if sym at t then Some i else None)) ∙ sym (first_next ts i d k h)));
}

-- a place that is taken, by the table and by the count
pub taken_as_counted : (n : ℕ) (xs : List Attempt) (slots : List (Option ℕ)) (at : ℕ) → AreSlots n xs slots → (nat_le (length slots) at || is_some (get_or slots at None)) ≡ (nat_le n at || nat_lt 0 (count_at at xs))
taken_as_counted n xs slots at s = elim (cases_lt at n) [
  | inl l ↦ (λ i. nat_le (s.size i) at || is_some (s.each at l i)) ∙ ap (λ b. nat_le n at || b) (sym (counted_found 0 xs at))
  | inr g ↦
      let past : nat_le n at ≡ true = le-leb n at g in
      ap (λ (m : ℕ). nat_le m at || is_some (get_or slots at None)) s.size ∙ (ap (λ b. b || is_some (get_or slots at None)) past ∙ sym (ap (λ b. b || nat_lt 0 (count_at at xs)) past))
]

-- ## Links

pub none_beyond : (n i : ℕ) (ts : List Attempt) (j : ℕ) (d : Attempt) → at_fault n i ts ≡ None → j < length ts → is_beyond n (get_or ts j d) ≡ false
none_beyond n i [] j d e h = absurd (omega (arith, h))
none_beyond n i (a ∷ ts) zero d e h = (passed_over (is_beyond n a) _ (at_fault n (suc i) ts) e).0
none_beyond n i (a ∷ ts) (suc j) d e h = none_beyond n (suc i) ts j d (passed_over (is_beyond n a) _ (at_fault n (suc i) ts) e).1 (omega (arith, h))

pub seen_within : (n : ℕ) (a : Attempt) → is_committed a.outcome ≡ false → is_beyond n a ≡ false → a.at ≤ n
seen_within n a e b = elim (cases_lt n a.at) [
  | inl l ↦ let t : is_beyond n a ≡ true = ap (λ x. not x && nat_lt n a.at) e ∙ lt-ltb n a.at l in cc
  | inr g ↦ g
]

-- the table of older ones, with one more
older_before : (n : ℕ) (ts : List Attempt) (i : ℕ) (d : Attempt) (newest older : List (Option ℕ)) (o : Option ℕ) → i < length ts → AreLinks n ts i newest older
    → (is_committed (get_or ts i d).outcome ≡ false → o ≡ last_other 0 (take i ts) (get_or ts i d).at)
    → (j : ℕ) (f : Attempt) → j < i + 1 → is_committed (get_or ts j f).outcome ≡ false → get_or (older ++ o ∷ []) j None ≡ last_other 0 (take j ts) (get_or ts j f).at
older_before n ts i d newest older o h s here j f l e = elim (cases_lt j i) [
  | inl b ↦ get_or_append_left older (o ∷ []) None j (omega (arith, s.as_many, b)) ∙ s.before j f b e
  | inr g ↦
      let is : j ≡ i = omega (arith, l, g) in
      let item : get_or ts j f ≡ get_or ts i d = ap (λ (m : ℕ). get_or ts m f) is ∙ get_or_default ts i f d h in
      let at : get_or (older ++ o ∷ []) j None ≡ o = ap (λ (m : ℕ). get_or (older ++ o ∷ []) m None) (is ∙ sym s.as_many) ∙ get_or-append_seam older o [] None in
      at ∙ (here (ap (λ (a : Attempt). is_committed a.outcome) (sym item) ∙ e) ∙ (ap (λ (m : ℕ). last_other 0 (take m ts) (get_or ts i d).at) (sym is) ∙ ap (λ (a : Attempt). last_other 0 (take j ts) a.at) (sym item)))
]

longer : (older : List (Option ℕ)) (o : Option ℕ) (i : ℕ) → length older ≡ i → length (older ++ o ∷ []) ≡ i + 1
longer older o i e = omega (arith, length-append older (o ∷ []), e)

pub links_same : (n : ℕ) (ts : List Attempt) (i : ℕ) (d : Attempt) (newest older : List (Option ℕ)) → i < length ts → is_committed (get_or ts i d).outcome ≡ true
    → AreLinks n ts i newest older → AreLinks n ts (i + 1) newest (older ++ None ∷ [])
links_same n ts i d newest older h e s = record {
  size = s.size;
  as_many = longer older None i s.as_many;
  last = λ k l. let a = get_or ts i d in
      let off : is_other k a ≡ false = ap (λ b. not b && (a.at == k)) e in
      s.last k l ∙ sym (last_next ts i d k h ∙ cond-false (is_other k a) (Some i) (last_other 0 (take i ts) k) off);
  before = older_before n ts i d newest older None h s (λ f. let no : true ≡ false = sym e ∙ f in cc);
}

pub links_next : (n : ℕ) (ts : List Attempt) (i : ℕ) (d : Attempt) (newest older : List (Option ℕ)) → i < length ts → is_committed (get_or ts i d).outcome ≡ false → (get_or ts i d).at ≤ n
    → AreLinks n ts i newest older → AreLinks n ts (i + 1) (set newest (get_or ts i d).at (Some i)) (older ++ get_or newest (get_or ts i d).at None ∷ [])
links_next n ts i d newest older h e w s = record {
  size = length-set newest (get_or ts i d).at (Some i) ∙ s.size;
  as_many = longer older (get_or newest (get_or ts i d).at None) i s.as_many;
  last = λ k l.
      let a = get_or ts i d in
      let on : is_other k a ≡ (a.at == k) = ap (λ b. not b && (a.at == k)) e in
      set_there newest a.at i k (omega (arith, s.size, l)) ∙ ((λ t. if sym on t then Some i else s.last k l t) ∙ sym (last_next ts i d k h));
  before = older_before n ts i d newest older (get_or newest (get_or ts i d).at None) h s (λ f. s.last (get_or ts i d).at w);
}

-- ## One attempt, by its table

-- the test of the table says whether it is misplaced
pub misplaced_here : (n : ℕ) (ts : List Attempt) (i : ℕ) (a : Attempt) (slots : List (Option ℕ)) → a ≡ get_or ts i a → is_committed a.outcome ≡ true
    → (b : Bool) → (nat_le (length slots) a.at || is_some (get_or slots a.at None)) ≡ b → AreSlots n (take i ts) slots → is_misplaced n (take i ts) (get_or ts i a) ≡ b
misplaced_here n ts i a slots is e b t s =
    ap (is_misplaced n (take i ts)) (sym is)
    ∙ (ap (λ c. c && (nat_le n a.at || nat_lt 0 (count_at a.at (take i ts)))) e
    ∙ (sym (taken_as_counted n (take i ts) slots a.at s) ∙ t))

-- one that is not committed is not
pub unplaced_here : (n : ℕ) (ts : List Attempt) (i : ℕ) (a : Attempt) → a ≡ get_or ts i a → is_committed a.outcome ≡ false → is_misplaced n (take i ts) (get_or ts i a) ≡ false
unplaced_here n ts i a is e = ap (is_misplaced n (take i ts)) (sym is) ∙ ap (λ c. c && (nat_le n a.at || nat_lt 0 (count_at a.at (take i ts)))) e

none_is : (o : Option ℕ) (b : Bool) → (b || is_some o) ≡ false → o ≡ None
none_is None b h = refl
none_is (Some x) true h = cc
none_is (Some x) false h = cc

-- a place that is not taken is there, and free
pub placed_free : (slots : List (Option ℕ)) (at : ℕ) → (nat_le (length slots) at || is_some (get_or slots at None)) ≡ false → (at < length slots) × (get_or slots at None ≡ None)
placed_free slots at h = elim (cases_lt at (length slots)) [
  | inl l ↦ (l, none_is (get_or slots at None) (nat_le (length slots) at) h)
  | inr g ↦ let past : nat_le (length slots) at ≡ true = le-leb (length slots) at g in
      let no : true ≡ false = sym (ap (λ b. b || is_some (get_or slots at None)) past) ∙ h in cc
]
