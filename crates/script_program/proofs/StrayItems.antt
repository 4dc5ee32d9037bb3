-- The first item whose thread is not below a number.
use Rattle.std.proofs.Common.{◌≡◌, ℕ, ◌+◌, ◌<◌, ◌≤◌, Bool, cond, ltb, All, subst, List, [], length, take, drop, get_or, Some, None, refl, ap, ◌∙◌, arith, drop-cons, add-one}
use Rattle.std.{proofs.lemmas.Bool.lt-ltb, proofs.lemmas.Bool.le-ltb, proofs.lemmas.Grind.common_steps, proofs.lemmas.List.Elements.All-more}
use Rattle.script_program.{specs.declared.schedule.Item.Item, specs.Listing.thread_of, specs.Schedules.stray_of}

here : (n : ℕ) (items : List Item) (lines : List ℕ) (i : ℕ) (d : Item) → i < length items → i < length lines
    → stray_of n (drop i items) (drop i lines) ≡ cond (ltb (thread_of (get_or items i d)) n) (stray_of n (drop (i + 1) items) (drop (i + 1) lines)) (Some (get_or lines i 0))
here n items lines i d h k = rw (add-one, drop-cons items i d, drop-cons lines i 0) refl

pub stray_next : (n : ℕ) (items : List Item) (lines : List ℕ) (i : ℕ) (d : Item) → i < length items → i < length lines → thread_of (get_or items i d) < n
    → stray_of n (drop i items) (drop i lines) ≡ stray_of n (drop (i + 1) items) (drop (i + 1) lines)
stray_next n items lines i d h k l = here n items lines i d h k ∙ ap (λ (t : Bool). cond t (stray_of n (drop (i + 1) items) (drop (i + 1) lines)) (Some (get_or lines i 0))) (lt-ltb _ _ l)

pub stray_found : (n : ℕ) (items : List Item) (lines : List ℕ) (i : ℕ) (d : Item) → i < length items → i < length lines → n ≤ thread_of (get_or items i d)
    → stray_of n (drop i items) (drop i lines) ≡ Some (get_or lines i 0)
stray_found n items lines i d h k l = here n items lines i d h k ∙ ap (λ (t : Bool). cond t (stray_of n (drop (i + 1) items) (drop (i + 1) lines)) (Some (get_or lines i 0))) (le-ltb _ _ l)

pub stray_end : (n : ℕ) (items : List Item) (lines : List ℕ) (i : ℕ) → length items ≤ i → stray_of n (drop i items) lines ≡ None
stray_end n items lines i h =
    let none : drop i items ≡ [] = grind (arith, common_steps) in
    ap (λ (l : List Item). stray_of n l lines) none

pub named_next : (n : ℕ) (items : List Item) (i : ℕ) (d : Item) → i < length items → thread_of (get_or items i d) < n → All (λ j. thread_of j < n) (take i items) → All (λ j. thread_of j < n) (take (i + 1) items)
named_next n items i d h l all = All-more (λ (j : Item). thread_of j < n) items i d h all l

pub named_all : (n : ℕ) (items : List Item) (i : ℕ) → length items ≤ i → All (λ j. thread_of j < n) (take i items) → All (λ j. thread_of j < n) items
named_all n items i h all =
    let same : take i items ≡ items = grind (arith, common_steps) in
    subst (All (λ (j : Item). thread_of j < n)) same all
