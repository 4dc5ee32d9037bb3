-- What holds of each element of a list, and of each of its parts.
use Rattle.std.proofs.Common.{ℕ, zero, suc, ◌<◌, List, [], ◌∷◌, ◌++◌, length, map, take, drop, get_or, arith}
use Rattle.std.specs.List.{AllByRecursion}

module _ {X : Type 0} (P : X → Type 0) where
  pub all_append : (xs ys : List X) → AllByRecursion P xs → AllByRecursion P ys → AllByRecursion P (xs ++ ys)
  all_append [] ys a b = b
  all_append (x ∷ xs) ys a b = (a.0, all_append xs ys a.1 b)

  pub all_parts : (xs ys : List X) → AllByRecursion P (xs ++ ys) → AllByRecursion P xs × AllByRecursion P ys
  all_parts [] ys a = (tt, a)
  all_parts (x ∷ xs) ys a = (let rest = all_parts xs ys a.1 in ((a.0, rest.0), rest.1))

  pub all_take : (n : ℕ) (xs : List X) → AllByRecursion P xs → AllByRecursion P (take n xs)
  all_take zero xs a = tt
  all_take (suc n) [] a = tt
  all_take (suc n) (x ∷ xs) a = (a.0, all_take n xs a.1)

  pub all_drop : (n : ℕ) (xs : List X) → AllByRecursion P xs → AllByRecursion P (drop n xs)
  all_drop zero xs a = a
  all_drop (suc n) [] a = tt
  all_drop (suc n) (x ∷ xs) a = all_drop n xs a.1

  pub all_at : (xs : List X) (i : ℕ) (d : X) → AllByRecursion P xs → i < length xs → P (get_or xs i d)
  all_at [] i d a h = absurd (omega (arith, h))
  all_at (x ∷ xs) zero d a h = a.0
  all_at (x ∷ xs) (suc i) d a h = all_at xs i d a.1 (omega (arith, h))

  pub all_map : {Y : Type 0} (f : Y → X) (ys : List Y) → AllByRecursion (λ y. P (f y)) ys → AllByRecursion P (map f ys)
  all_map f [] a = tt
  all_map f (y ∷ ys) a = (a.0, all_map f ys a.1)
