-- Memory is a list of words. A commit is the list of its stores, in order, each a word's number and its new value.
use Rattle.std.specs.Prelude.{◌≡◌, ℕ, ◌<◌, ◌≤◌, ◌^◌, List, [], ◌∷◌, ◌++◌, length, slice_index, slice_set, take}
use Rattle.std.specs.List.{AllByRecursion}
use mathlib.Core.Option.{some}
use lib.ListN.{get_elem?}

abbrev pub Stores : Type 0
Stores = List (ℕ × ℕ)

-- memory after stores, the first one first
abbrev pub stored : List ℕ → List (ℕ × ℕ) → List ℕ
stored m [] = m
stored m (x ∷ xs) = stored (slice_set m x.0 x.1) xs

-- memory after commits, the first one first
abbrev pub after : List ℕ → List (List (ℕ × ℕ)) → List ℕ
after m [] = m
after m (c ∷ cs) = after (stored m c) cs

-- memory after the first k commits
abbrev pub memory_at : List ℕ → List (List (ℕ × ℕ)) → ℕ → List ℕ
memory_at m h k = after m (take k h)

-- each pair is a word and the value that it has in m
abbrev pub Stand : List ℕ → List (ℕ × ℕ) → Type 0
Stand m [] = Unit {0}
Stand m (x ∷ xs) = (slice_index m x.0 ≡ x.1) × Stand m xs

abbrev pub StartsWith : {A : Type 0} → List A → List A → Type 0
StartsWith {A} xs ys = (rest : List A) × (xs ≡ ys ++ rest)

-- at some moment of the history h the word x.0 had the value x.1: after so many of its commits, no fewer than x.2, and so many stores of the next
pub record Met (m : List ℕ) (h : List (List (ℕ × ℕ))) (x : ℕ × ℕ × ℕ) : Type 0 where
  pub commits : ℕ
  pub next : List (ℕ × ℕ)
  pub stores : ℕ
  pub late : x.2 ≤ commits
  pub there : get_elem? h commits ≡ some next
  pub few : stores ≤ length next
  pub value : x.1 ≡ slice_index (stored (memory_at m h commits) (take stores next)) x.0

abbrev pub AllMet : List ℕ → List (List (ℕ × ℕ)) → List (ℕ × ℕ × ℕ) → Type 0
AllMet m h xs = AllByRecursion (Met m h) xs

-- each value fits 64 bits
abbrev pub StoresFit : List (ℕ × ℕ) → Type 0
StoresFit xs = AllByRecursion (λ x. x.1 < 2 ^ 64) xs

abbrev pub CommitsFit : List (List (ℕ × ℕ)) → Type 0
CommitsFit cs = AllByRecursion StoresFit cs
