-- The innermost of what is open, in a list whose last it is.
use Rattle.std.proofs.Common.{◌≡◌, ℕ, ◌+◌, ◌-◌, ◌<◌, List, [], ◌∷◌, ◌++◌, length, take, get_or, set, reverse, sym, ap, ◌∙◌, arith}
use Rattle.script_asm.proofs.Common.{Beginning, length-take, reverse-append, second_part, set-append_seam, take_more}
use Rattle.std.proofs.lemmas.Grind.{common_steps}
use Rattle.script_asm.specs.declared.groups.Group.TheVariants as groups

abbrev second : Beginning → Beginning
second b = record b { group = groups.Second }

last_turned : (front : List Beginning) (b : Beginning) → reverse (set (front ++ b ∷ []) (length front) (second b)) ≡ second_part (reverse (front ++ b ∷ []))
last_turned front b =
    ap reverse (set-append_seam front b [] (second b)) ∙ reverse-append front (second b ∷ []) ∙ ap second_part (sym (reverse-append front (b ∷ [])))

pub turned : (xs : List Beginning) (n : ℕ) (b : Beginning) → n ≡ length xs → 0 < n → b ≡ get_or xs (n - 1) b → reverse (set xs (n - 1) (second b)) ≡ second_part (reverse xs)
turned xs n b e h is =
    let front : List Beginning = take (n - 1) xs in
    let all : take (n - 1 + 1) xs ≡ xs = grind (arith, common_steps) in
    let split : xs ≡ front ++ b ∷ [] = sym all ∙ take_more xs (n - 1) b (omega arith) ∙ ap (λ (x : Beginning). front ++ x ∷ []) (sym is) in
    let place : length front ≡ n - 1 = omega (arith, length-take (n - 1) xs) in
    ap (λ (l : List Beginning). reverse (set l (n - 1) (second b))) split
    ∙ ap (λ (k : ℕ). reverse (set (front ++ b ∷ []) k (second b))) (sym place)
    ∙ last_turned front b ∙ ap (λ (l : List Beginning). second_part (reverse l)) (sym split)
