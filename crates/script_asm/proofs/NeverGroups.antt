-- How many of what is open are lines that are to stand 0 times.
use Rattle.std.proofs.Common.{◌≡◌, ℕ, ◌+◌, ◌≤◌, Bool, true, false, cond, ltb, ◌||◌, List, [], ◌∷◌, length, Some, refl, ap, ◌∙◌, arith}
use Rattle.script_asm.proofs.Common.{Beginning, innermost, lt-ltb, never_count, second_part, stands_never, within_never}
use Rattle.script_asm.specs.declared.groups.Group.TheVariants as groups

one_more : (b : Bool) (n : ℕ) → ltb 0 (cond b 1 0 + n) ≡ (b || ltb 0 n)
one_more true n = lt-ltb 0 (1 + n) (omega arith)
one_more false n = ap (ltb 0) (omega arith)

-- there are some where one is
pub some_never : (ls : List Beginning) → ltb 0 (never_count ls) ≡ within_never ls
some_never [] = refl
some_never (b ∷ more) = one_more (stands_never b.group) (never_count more) ∙ ap (λ (e : Bool). stands_never b.group || e) (some_never more)

one_at_most : (b : Bool) → cond b 1 0 ≤ 1
one_at_most true = omega arith
one_at_most false = omega arith

-- no more than are open
pub few_never : (ls : List Beginning) → never_count ls ≤ length ls
few_never [] = omega arith
few_never (b ∷ more) = omega (arith, one_at_most (stands_never b.group), few_never more)

-- as many in the second part of a group as in the first
pub same_never : (ls : List Beginning) → innermost ls ≡ Some groups.First → never_count (second_part ls) ≡ never_count ls
same_never [] e = absurd cc
same_never (b ∷ more) e = let is : b.group ≡ groups.First = cc in rw is refl
