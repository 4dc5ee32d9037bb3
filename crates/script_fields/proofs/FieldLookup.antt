-- Looking a field up, row by row.
use Rattle.std.proofs.Common.{◌≡◌, ℕ, ◌+◌, ◌<◌, ◌≤◌, Bool, true, false, cond, List, [], length, drop, get_or, map, Some, None, refl, sym, ap, ◌∙◌, arith, drop-cons, add-one, bytes_eq}
use Rattle.script_fields.proofs.Common.{common_steps, lookup, row}
use denote.Ref.{Bor}

here : {A : Type 0} (rows : List (Bor (List ℕ) × A)) (i : ℕ) (d : Bor (List ℕ) × A) (f : List ℕ) → i < length rows → lookup (map row (drop i rows)) f ≡ cond (bytes_eq (get_or rows i d).0.now f) (Some (get_or rows i d).1) (lookup (map row (drop (i + 1) rows)) f)
here rows i d f h = rw (add-one, drop-cons rows i d) refl

pub goes_on : {A : Type 0} (rows : List (Bor (List ℕ) × A)) (i : ℕ) (d : Bor (List ℕ) × A) (f : List ℕ) → i < length rows → bytes_eq (get_or rows i d).0.now f ≡ false → lookup (map row (drop (i + 1) rows)) f ≡ lookup (map row (drop i rows)) f
goes_on rows i d f h e = sym (here rows i d f h ∙ ap (λ (t : Bool). cond t (Some (get_or rows i d).1) (lookup (map row (drop (i + 1) rows)) f)) e)

pub found : {A : Type 0} (rows : List (Bor (List ℕ) × A)) (i : ℕ) (d : Bor (List ℕ) × A) (f : List ℕ) → i < length rows → bytes_eq (get_or rows i d).0.now f ≡ true → lookup (map row (drop i rows)) f ≡ Some (get_or rows i d).1
found rows i d f h e = here rows i d f h ∙ ap (λ (t : Bool). cond t (Some (get_or rows i d).1) (lookup (map row (drop (i + 1) rows)) f)) e

pub ended : {A : Type 0} (rows : List (Bor (List ℕ) × A)) (i : ℕ) (f : List ℕ) → length rows ≤ i → lookup (map row (drop i rows)) f ≡ None
ended {A} rows i f h =
    let none : drop i rows ≡ [] = grind (arith, common_steps) in
    ap (λ (l : List (Bor (List ℕ) × A)). lookup (map row l) f) none
