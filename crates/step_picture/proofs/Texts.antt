-- Texts that are written one after another.
use Rattle.std.proofs.Common.{◌≡◌, ℕ, List, [], ◌++◌, ap, ◌∙◌, append-nil}

-- two, with nothing behind them
pub both_parts : (x x' y y' : List ℕ) → x ≡ x' → y ≡ y' → x ++ y ++ [] ≡ x' ++ y'
both_parts x x' y y' e f = append-nil (x ++ y) ∙ ap (λ (l : List ℕ). l ++ y) e ∙ ap (λ (l : List ℕ). x' ++ l) f

-- three, of which the third is one text
pub three_parts : (x x' y y' z : List ℕ) → x ≡ x' → y ≡ y' → x ++ y ++ (z ++ []) ≡ x' ++ y' ++ z
three_parts x x' y y' z e f =
    ap (λ (l : List ℕ). x ++ y ++ l) (append-nil z) ∙ ap (λ (l : List ℕ). l ++ y ++ z) e ∙ ap (λ (l : List ℕ). x' ++ l ++ z) f
