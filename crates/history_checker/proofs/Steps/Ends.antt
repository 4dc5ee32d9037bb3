-- What a history's end says, one attempt after the other.
use Rattle.std.proofs.Common.{◌≡◌, ℕ, zero, suc, ◌+◌, ◌<◌, ◌≤◌, Bool, true, false, not, ◌&&◌, ◌||◌, ◌==◌, if◌then◌else◌, is_some, List, [], ◌∷◌, length, get_or, take, map, sum_by, refl, ap, sym, ◌∙◌, arith, inl, inr, Option, None, Some}
use Rattle.history_checker.proofs.Common.{AreTold, Attempt, Fault, History, IsTold, Outcome, Spot, Told, Unfinished, Version, alone, at_fault, at_place, cases_lt, committed_fault, common_steps, count_holding, depth_of, fault_at, fault_in, first_of, first_row, head_row, is_away, is_beyond, is_committed, is_holding, is_unfinished, line_count, memory_at, nothing_told, one_where, others_fault, told_away, told_fault, told_holding, told_of, told_on, told_row, unless_fault}
use Rattle.history_checker.{proofs.Steps.Tables.none_beyond, proofs.Steps.Tables.seen_within, proofs.Steps.Firsts.first_nothing, proofs.Steps.Firsts.place_none}

-- ## The first fault of a committed attempt

fault_stays : (h : History) (k : ℕ) (s : Spot) (n : ℕ) → committed_fault h k ≡ Some s → k ≤ n → committed_fault h n ≡ Some s
fault_stays h k s zero e l = let is : 0 ≡ k = omega (arith, l) in ap (committed_fault h) is ∙ e
fault_stays h k s (suc n) e l = elim (cases_lt n k) [
  | inl b ↦ let is : suc n ≡ k = omega (arith, l, b) in ap (committed_fault h) is ∙ e
  | inr g ↦ ap (λ (o : Option Spot). first_of o (fault_at (depth_of h.version) (memory_at h n) n 0 h.attempts)) (fault_stays h k s n e g)
]

some_stays : (h : History) (k n : ℕ) (f : Option Spot) → f ≡ committed_fault h k → is_some f ≡ true → k ≤ n → f ≡ committed_fault h n
some_stays h k n None e s l = cc
some_stays h k n (Some x) e s l = sym (fault_stays h k x n (sym e) l)

-- where nothing is wrong with so many first ones, nothing is with fewer
pub right_below : (h : History) (n k : ℕ) → k ≤ n → committed_fault h n ≡ None → committed_fault h k ≡ None
right_below h n k l e = by_fault (committed_fault h k) refl
  where
    by_fault : (o : Option Spot) → committed_fault h k ≡ o → o ≡ None
    by_fault None is = refl
    by_fault (Some s) is = sym (fault_stays h k s n is l) ∙ e

pub committed_first : (h : History) (k n : ℕ) (f : Option Spot) → committed_fault h k ≡ None → f ≡ fault_at (depth_of h.version) (memory_at h k) k 0 h.attempts → is_some f ≡ true → k < n → f ≡ committed_fault h n
committed_first h k n f none e s l =
    some_stays h (suc k) n f (e ∙ ap (λ (o : Option Spot). first_of o (fault_at (depth_of h.version) (memory_at h k) k 0 h.attempts)) (sym none)) s (omega (arith, l))

-- ## Rows

pub row_next : (v : Version) (ts : List Attempt) (i : ℕ) (d : Attempt) (row : ℕ) → i < length ts → row ≡ told_row (head_row v ts i) → told_row (row + line_count (get_or ts i d)) ≡ told_row (head_row v ts (i + 1))
row_next v ts i d row h e =
    let sum : sum_by line_count (take (i + 1) ts) ≡ sum_by line_count (take i ts) + line_count (get_or ts i d) = grind (arith, common_steps) in
    omega (arith, e, sum)

pub row_last : (v : Version) (ts : List Attempt) (i place : ℕ) → length ts ≤ i → i ≤ place → head_row v ts i ≡ head_row v ts place
row_last v ts i place h l =
    let whole : take i ts ≡ take place ts = grind (arith, common_steps) in
    ap (λ (xs : List Attempt). first_row v + sum_by line_count xs) whole

-- ## All that is told

lists_same : (f : Attempt → Told) (told : List Told) (ts : List Attempt) (e : Told) → length told ≡ length ts → ((j : ℕ) (d : Attempt) → j < length ts → get_or told j e ≡ f (get_or ts j d)) → told ≡ map f ts
lists_same f [] [] e h g = refl
lists_same f (x ∷ xs) (t ∷ ts) e h g =
    let head = g 0 t (omega arith) in
    let tail = lists_same f xs ts e (omega (arith, h)) (λ j d l. g (suc j) d (omega (arith, l))) in
    (λ i. head i ∷ tail i)
lists_same f told ts e h g = absurd (omega (arith, h))

is_told : (n j : ℕ) (ts : List Attempt) (a : Attempt) (b : Bool) → is_committed a.outcome ≡ b → is_beyond n a ≡ false → IsTold (suc n) (length ts) j a
is_told n j ts a true e off = inl e
is_told n j ts a false e off = let w = seen_within n a e off in inr (inl (omega (arith, w)))

pub all_told : (h : History) (n : ℕ) (told : List Told) → at_fault n 0 h.attempts ≡ None → AreTold h (suc n) (length h.attempts) told → told ≡ map (told_of h) h.attempts
all_told h n told off t = lists_same (told_of h) told h.attempts nothing_told t.size
    (λ j d l. t.each j d l (is_told n j h.attempts (get_or h.attempts j d) (is_committed (get_or h.attempts j d).outcome) refl (none_beyond n 0 h.attempts j d off l)))

other_told : (h : History) (i : ℕ) (a : Attempt) (b : Bool) → (if b then None else at_place i (fault_in (depth_of h.version) (memory_at h a.at) a)) ≡ at_place i (if b then nothing_told else told_on (depth_of h.version) (memory_at h a.at) a).fault
unfolding told_on
other_told h i a true = refl
other_told h i a false = refl

pub others_told : (h : History) (i : ℕ) (ts : List Attempt) → others_fault h i ts ≡ told_fault i (map (told_of h) ts)
others_told h i [] = refl
others_told h i (a ∷ ts) = λ t. first_of (other_told h i a (is_committed a.outcome) t) (others_told h (suc i) ts t)

ended_or_not : (o : Outcome) → is_committed o ≡ true → is_unfinished o ≡ false
ended_or_not Unfinished e = sym e
ended_or_not o e = refl

held : (h : History) (i : ℕ) (a : Attempt) (b : Bool) → is_committed a.outcome ≡ b → (if b then None else at_place i (fault_in (depth_of h.version) (memory_at h a.at) a)) ≡ None → (if b then nothing_told else told_on (depth_of h.version) (memory_at h a.at) a).holds ≡ is_holding h a
unfolding told_on
held h i a true e f = sym (ap (λ (u : Bool). u && (alone (depth_of h.version) (memory_at h a.at) a).irrevocable) (ended_or_not a.outcome e))
held h i a false e f = ap (λ (g : Option Fault). unless_fault g (is_unfinished a.outcome && (alone (depth_of h.version) (memory_at h a.at) a).irrevocable)) (place_none i (fault_in (depth_of h.version) (memory_at h a.at) a) f)

-- of an attempt among others of which none has a fault it is told whether it holds the clock
held_here : (h : History) (i : ℕ) (a : Attempt) (ts : List Attempt) → others_fault h i (a ∷ ts) ≡ None → ((told_of h a).holds ≡ is_holding h a) × (others_fault h (suc i) ts ≡ None)
held_here h i a ts e = let parts = first_nothing (if is_committed a.outcome then None else at_place i (fault_in (depth_of h.version) (memory_at h a.at) a)) (others_fault h (suc i) ts) e in (held h i a (is_committed a.outcome) refl parts.0, parts.1)

pub holding_told : (h : History) (i : ℕ) (ts : List Attempt) → others_fault h i ts ≡ None → told_holding (map (told_of h) ts) ≡ count_holding h ts
holding_told h i [] e = refl
holding_told h i (a ∷ ts) e = let here = held_here h i a ts e in (λ t. one_where (here.0 t) + holding_told h (suc i) ts here.1 t)

pub away_told : (h : History) (n i : ℕ) (ts : List Attempt) → others_fault h i ts ≡ None → told_away n ts (map (told_of h) ts) ≡ is_away h n ts
away_told h n i [] e = refl
away_told h n i (a ∷ ts) e = let here = held_here h i a ts e in (λ t. (here.0 t && not (a.at == n)) || away_told h n (suc i) ts here.1 t)
