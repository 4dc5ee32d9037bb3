-- Lists whose members have numbers.
use Rattle.std.specs.Prelude.{ℕ, ◌+◌, List, [], ◌∷◌}

-- P holds of each member and its number, counted from n
abbrev pub Numbered : {A : Type 0} → (ℕ → A → Type 0) → ℕ → List A → Type 0
Numbered P n [] = Unit {0}
Numbered P n (x ∷ xs) = P n x × Numbered P (n + 1) xs
