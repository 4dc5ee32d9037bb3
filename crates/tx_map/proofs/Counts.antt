-- How often a position stands in a list.
use Rattle.std.proofs.Common.{◌≡◌, ◌≢◌, ◌∙◌, ℕ, suc, ◌+◌, ◌==◌, Bool, true, false, cond, List, ◌∷◌, ◌++◌, ap, refl, arith}
use Rattle.tx_map.proofs.Common.{eq-eqb, eqb-true, sum_by-append, sum_by-cons, times}

pub times_append : (p : ℕ) (xs ys : List ℕ) → times p (xs ++ ys) ≡ times p xs + times p ys
times_append p xs ys = sum_by-append _ xs ys

times_cons : (p q : ℕ) (qs : List ℕ) → times p (q ∷ qs) ≡ cond {A = ℕ} (q == p) 1 0 + times p qs
times_cons p q qs = sum_by-cons (λ (x : ℕ). cond {A = ℕ} (x == p) 1 0) q qs

pub times_other : (p q : ℕ) (qs : List ℕ) → q ≢ p → times p (q ∷ qs) ≡ times p qs
times_other p q qs away = by (q == p) refl
  where
    by : (b : Bool) → (q == p) ≡ b → times p (q ∷ qs) ≡ times p qs
    by true e = absurd (away (eqb-true q p e))
    by false e = let step : times p (q ∷ qs) ≡ 0 + times p qs = times_cons p q qs ∙ ap (λ (b : Bool). cond {A = ℕ} b 1 0 + times p qs) e in omega (arith, step)

pub times_here : (p q : ℕ) (qs : List ℕ) → q ≡ p → times p (q ∷ qs) ≡ suc (times p qs)
times_here p q qs e = let step : times p (q ∷ qs) ≡ 1 + times p qs = times_cons p q qs ∙ ap (λ (b : Bool). cond {A = ℕ} b 1 0 + times p qs) (eq-eqb q p e) in omega (arith, step)
