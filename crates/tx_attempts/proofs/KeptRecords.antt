-- Of the inner blocks that ran again, those of before so many calls.
use Rattle.std.proofs.Common.{◌≡◌, ℕ, ◌≤◌, Bool, true, false, nat_lt, if◌then◌else◌, List, [], ◌∷◌, ◌++◌, length, refl, ap, ◌∙◌, arith, append-nil, inl, inr}
use Rattle.tx_attempts.proofs.Common.{Again, before, cases_Bool}

module _ (kept : ℕ) where
  early : (a : Again) (rest : List Again) → nat_lt a.kept kept ≡ true → before kept (a ∷ rest) ≡ a ∷ before kept rest
  early a rest is = ap (λ (b : Bool). if b then a ∷ before kept rest else before kept rest) is

  late : (a : Again) (rest : List Again) → nat_lt a.kept kept ≡ false → before kept (a ∷ rest) ≡ before kept rest
  late a rest is = ap (λ (b : Bool). if b then a ∷ before kept rest else before kept rest) is

  pub before_both : (xs ys : List Again) → before kept (xs ++ ys) ≡ before kept xs ++ before kept ys
  before_both [] ys = refl
  before_both (x ∷ xs) ys = elim (cases_Bool (nat_lt x.kept kept)) [
    | inl is ↦ simp is (ap (λ (l : List Again). x ∷ l) (before_both xs ys))
    | inr is ↦ simp is (before_both xs ys)
  ]

  pub before_early : (a : Again) (xs : List Again) → nat_lt a.kept kept ≡ true → before kept (xs ++ a ∷ []) ≡ before kept xs ++ a ∷ []
  before_early a xs is = before_both xs (a ∷ []) ∙ ap (λ (l : List Again). before kept xs ++ l) (early a [] is)

  pub before_late : (a : Again) (xs : List Again) → nat_lt a.kept kept ≡ false → before kept (xs ++ a ∷ []) ≡ before kept xs
  before_late a xs is = before_both xs (a ∷ []) ∙ (ap (λ (l : List Again). before kept xs ++ l) (late a [] is) ∙ append-nil (before kept xs))

  pub before_short : (xs : List Again) → length (before kept xs) ≤ length xs
  before_short [] = omega arith
  before_short (x ∷ xs) = elim (cases_Bool (nat_lt x.kept kept)) [
    | inl is ↦ omega (arith, ap (length {A = Again}) (early x xs is), before_short xs)
    | inr is ↦ omega (arith, ap (length {A = Again}) (late x xs is), before_short xs)
  ]
