-- Bars that are the same.
use Rattle.std.proofs.Common.{◌≡◌, ℕ, List, ap, ◌∙◌}
use Rattle.step_picture.proofs.Common.{bar_text}

pub bar_as : (to lane from from' : ℕ) (look look' words words' : List ℕ) → from ≡ from' → look ≡ look' → words ≡ words' → bar_text from to lane look words ≡ bar_text from' to lane look' words'
bar_as to lane from from' look look' words words' e f h =
    ap (λ (n : ℕ). bar_text n to lane look words) e ∙ ap (λ (l : List ℕ). bar_text from' to lane l words) f ∙ ap (λ (l : List ℕ). bar_text from' to lane look' l) h
