-- The verdict, by what is found first.
use Rattle.std.proofs.Common.{◌≡◌, ℕ, List, [], ap, sym, ◌∙◌, Option, None, Some}
use Rattle.history_checker.proofs.Common.{Attempt, History, Spot, at_fault, bad, committed_fault, count_committed, final_verdict, first_fault, first_of, others_fault, position_fault, verdict_of, verdict_on}

pub record Found (h : History) (ts : List Attempt) (n : ℕ) (p b c o : Option Spot) : Type 0 where
  pub attempts : ts ≡ h.attempts
  pub count : n ≡ count_committed ts
  pub position : p ≡ position_fault n [] ts
  pub beyond : b ≡ at_fault n 0 ts
  pub committed : c ≡ committed_fault h (count_committed h.attempts)
  pub others : o ≡ others_fault h 0 h.attempts

count_is : (h : History) (ts : List Attempt) (n : ℕ) → ts ≡ h.attempts → n ≡ count_committed ts → n ≡ count_committed h.attempts
count_is h ts n e f = f ∙ ap count_committed e

pub place_is : (h : History) (ts : List Attempt) (n : ℕ) (p : Option Spot) → ts ≡ h.attempts → n ≡ count_committed ts → p ≡ position_fault n [] ts → p ≡ position_fault (count_committed h.attempts) [] h.attempts
place_is h ts n p e f g = g ∙ (ap (λ (m : ℕ). position_fault m [] ts) (count_is h ts n e f) ∙ ap (λ (xs : List Attempt). position_fault (count_committed h.attempts) [] xs) e)

pub beyond_is : (h : History) (ts : List Attempt) (n : ℕ) (b : Option Spot) → ts ≡ h.attempts → n ≡ count_committed ts → b ≡ at_fault n 0 ts → b ≡ at_fault (count_committed h.attempts) 0 h.attempts
beyond_is h ts n b e f g = g ∙ (ap (λ (m : ℕ). at_fault m 0 ts) (count_is h ts n e f) ∙ ap (λ (xs : List Attempt). at_fault (count_committed h.attempts) 0 xs) e)

-- the first of these is the first fault
first_from : (h : History) (ts : List Attempt) (n : ℕ) (p b c o : Option Spot) → Found h ts n p b c o → first_of p (first_of b (first_of c o)) ≡ first_fault h (count_committed h.attempts)
first_from h ts n p b c o f = λ i. first_of (place_is h ts n p f.attempts f.count f.position i) (first_of (beyond_is h ts n b f.attempts f.count f.beyond i) (first_of (f.committed i) (f.others i)))

module _ (h : History) (ts : List Attempt) (n : ℕ) (p b c o : Option Spot) (f : Found h ts n p b c o) where
  -- the verdict, where a fault is found
  pub judged : (s : Spot) → first_of p (first_of b (first_of c o)) ≡ Some s → (bad h.version ts s ≡ verdict_of h) × (Some s ≡ first_fault h (count_committed h.attempts))
  unfolding verdict_of
  judged s is =
      let first : Some s ≡ first_fault h (count_committed h.attempts) = sym is ∙ first_from h ts n p b c o f in
      (ap (λ (xs : List Attempt). bad h.version xs s) f.attempts ∙ ap (verdict_on h (count_committed h.attempts)) first, first)

  -- and where none is
  pub judged_last : first_of p (first_of b (first_of c o)) ≡ None → (final_verdict h n ≡ verdict_of h) × (None ≡ first_fault h (count_committed h.attempts))
  unfolding verdict_of
  judged_last is =
      let first : None ≡ first_fault h (count_committed h.attempts) = sym is ∙ first_from h ts n p b c o f in
      (ap (final_verdict h) (count_is h ts n f.attempts f.count) ∙ ap (verdict_on h (count_committed h.attempts)) first, first)
