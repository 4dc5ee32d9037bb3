-- The number that digits spell, from left to right.
use Rattle.std.proofs.Common.{◌≡◌, ℕ, ◌+◌, ◌-◌, ◌*◌, ◌^◌, ◌<◌, ◌≤◌, Bool, true, false, not, ◌&&◌, cond, eqb, Ok, Err, List, [], ◌∷◌, length, drop, get_or, Some, None, refl, sym, ap, ◌∙◌, arith, drop-cons, add-one}
use Rattle.script_fields.proofs.Common.{common_steps, in_range, is_number, le-leb, le-ltb, lt-ltb, number, value_after, value_of}
use Rattle.script_fields.specs.declared.fault.FaultKind.TheVariants as kinds

value_ge : (n : ℕ) (cs : List ℕ) → n ≤ value_after n cs
value_ge n [] = omega arith
value_ge n (c ∷ cs) = omega (arith, value_ge (n * 10 + (c - 48)) cs)

pub one_more : (total i : ℕ) (f : List ℕ) → i < length f → value_after (total * 10 + (get_or f i 0 - 48)) (drop (i + 1) f) ≡ value_after total (drop i f)
one_more total i f h = rw (add-one, drop-cons f i 0) refl

pub too_big : (total i : ℕ) (f : List ℕ) → value_after total (drop i f) ≡ value_after 0 f → i < length f → 2 ^ 64 ≤ total * 10 + (get_or f i 0 - 48) → value_of f ≡ None
unfolding value_of
too_big total i f e h big =
    let more = one_more total i f h in
    let ge = value_ge (total * 10 + (get_or f i 0 - 48)) (drop (i + 1) f) in
    ap (λ (t : Bool). cond t (Some (value_after 0 f)) None) (le-ltb _ _ (omega (arith, ge, more, e)))

pub all_read : (total i : ℕ) (f : List ℕ) → value_after total (drop i f) ≡ value_after 0 f → length f ≤ i → total < 2 ^ 64 → value_of f ≡ Some total
unfolding value_of
all_read total i f e h small =
    let none : drop i f ≡ [] = grind (arith, common_steps) in
    let same : total ≡ value_after 0 f = ap (value_after total) (sym none) ∙ e in
    ap (λ (t : Bool). cond t (Some (value_after 0 f)) None) (lt-ltb _ _ (omega (arith, same))) ∙ ap (λ (n : ℕ). Some n) (sym same)

no_zero_in_front : (b : Bool) → (not (b && false) && true) ≡ true
no_zero_in_front true = refl
no_zero_in_front false = refl

pub one_digit : (f : List ℕ) → length f ≡ 1 → 48 ≤ get_or f 0 0 → get_or f 0 0 ≤ 57 → number f ≡ Ok (get_or f 0 0 - 48)
unfolding number
one_digit [] one low high = absurd (omega arith)
one_digit (d ∷ []) one low high =
    let digit : is_number (d ∷ []) ≡ true = rw (le-leb 48 d low, le-leb d 57 high) (no_zero_in_front (eqb d 48)) in
    ap (λ (t : Bool). cond t (in_range (value_of (d ∷ []))) (Err kinds.Operand)) digit
    ∙ ap in_range (all_read (d - 48) 1 (d ∷ []) (omega arith) (omega arith) (omega arith))
one_digit (d ∷ e ∷ more) one low high = absurd (omega arith)
