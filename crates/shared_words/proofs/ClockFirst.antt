-- Cells of which the first is the clock.
use Rattle.std.proofs.Common.{◌≡◌, ℕ, zero, suc, ◌+◌, ◌^◌, ◌<◌, List, [], ◌∷◌, length, drop, get_or, sym, refl, ap, arith, ◌∙◌, length-drop}
use Rattle.shared_words.proofs.Common.{AllFit, get_elem?, some, some-injective}

pub clock_with_words : (cells : List ℕ) → 0 < length cells → get_or cells 0 0 ∷ drop 1 cells ≡ cells
clock_with_words [] more = absurd (omega arith)
clock_with_words (x ∷ xs) more = refl

pub clock_first : (cells : List ℕ) → 0 < length cells → get_or cells 0 0 ≡ 0 → 0 ∷ drop 1 cells ≡ cells
clock_first cells more is = ap (λ (n : ℕ). n ∷ drop 1 cells) (sym is) ∙ clock_with_words cells more

pub words_behind : (cells : List ℕ) → 0 < length cells → length (drop 1 cells) + 1 ≡ length cells
words_behind cells more = omega (arith, length-drop 1 cells)

pub at_is : (cells : List ℕ) (k w : ℕ) → get_elem? cells k ≡ some w → get_or cells k 0 ≡ w
at_is [] k w at = absurd (cc)
at_is (x ∷ xs) zero w at = some-injective x w at
at_is (x ∷ xs) (suc k) w at = at_is xs k w at

pub all_fit : (ws : List ℕ) → ((i d : ℕ) → i < length ws → get_or ws i d < 2 ^ 64) → AllFit ws
all_fit [] f = tt
all_fit (w ∷ ws) f = (f 0 0 (omega arith), all_fit ws (λ i d l. f (suc i) d (omega arith)))

pub rest_fits : (cells : List ℕ) → ((i d : ℕ) → i < length cells → get_or cells i d < 2 ^ 64) → AllFit (drop 1 cells)
rest_fits [] f = tt
rest_fits (x ∷ xs) f = all_fit xs (λ i d l. f (suc i) d (omega arith))
