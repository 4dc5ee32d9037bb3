-- The items of a line, one after the other.
use Rattle.std.proofs.Common.{◌≡◌, ℕ, ◌+◌, ◌<◌, List, [], ◌∷◌, length, Option, Some, None, Result, Ok, Err, refl, sym, ap, ◌∙◌, arith}
use Rattle.script_asm.proofs.Common.{Item, both, item_of, items_in, items_of, schedule_of, with_item}
use Rattle.script_fields.{specs.declared.fault.FaultKind.FaultKind, specs.Operands.◌>>=◌}
use Rattle.script_fields.specs.declared.fault.FaultKind.TheVariants as kinds

-- how many there are
abbrev pub tally : Result (List Item) FaultKind → Result ℕ FaultKind
tally (Ok items) = Ok (length items)
tally (Err k) = Err k

-- what is said of all the fields, from those so far and those after them
abbrev pub after : Option FaultKind → ℕ → Result ℕ FaultKind → Result ℕ FaultKind
after None n (Ok m) = Ok (n + m)
after None n (Err k) = Err k
after (Some j) n (Ok m) = Err j
after (Some j) n (Err k) = Err k

abbrev joined : Result Item FaultKind → Result (List Item) FaultKind → Result (List Item) FaultKind
joined i items = both i items >>= λ x. Ok (x.0 ∷ x.1)

stop_on : (beyond : Option FaultKind) (n : ℕ) (more : Result (List Item) FaultKind) → after beyond n (tally (joined (Err kinds.Operand) more)) ≡ Err kinds.Operand
stop_on None n (Ok items) = refl
stop_on (Some l) n (Ok items) = refl
stop_on beyond n more = refl

pub stop_next : (beyond : Option FaultKind) (n : ℕ) (fs more : List (List ℕ)) (f : List ℕ) → fs ≡ f ∷ more → item_of f ≡ Err kinds.Operand
    → after beyond n (tally (items_of fs)) ≡ Err kinds.Operand
stop_next beyond n fs more f e is = ap (λ (g : List (List ℕ)). after beyond n (tally (items_of g))) e ∙ ap (λ (r : Result Item FaultKind). after beyond n (tally (joined r (items_of more)))) is ∙ stop_on beyond n (items_of more)

-- ## The whole line

joined_ok : (i : Result Item FaultKind) (more : Result (List Item) FaultKind) (items : List Item) → joined i more ≡ Ok items → (x : Item) × (ys : List Item) × (i ≡ Ok x) × (more ≡ Ok ys) × (x ∷ ys ≡ items)
joined_ok (Ok x) (Ok ys) items e = (x, ys, refl, refl, cc)
joined_ok (Err j) (Ok ys) items e = absurd cc
joined_ok (Err kinds.Operand) (Err k) items e = absurd cc
joined_ok i more items e = absurd cc

in_items : (fs : List (List ℕ)) (items : List Item) → items_of fs ≡ Ok items → items_in fs ≡ items
in_items [] items e = cc
in_items (f ∷ fs) items e =
    let h = joined_ok (item_of f) (items_of fs) items e in
    ap (λ (r : Result Item FaultKind). with_item r (items_in fs)) h.2 ∙ ap (λ (l : List Item). h.0 ∷ l) (in_items fs h.1 h.3) ∙ h.4

tally_ok : (r : Result (List Item) FaultKind) (n : ℕ) → tally r ≡ Ok n → (items : List Item) × (r ≡ Ok items) × (n ≡ length items)
tally_ok (Ok items) n e = (items, refl, cc)
tally_ok (Err k) n e = absurd cc

tally_err : (r : Result (List Item) FaultKind) (k : FaultKind) → tally r ≡ Err k → r ≡ Err k
tally_err (Ok items) k e = absurd cc
tally_err (Err j) k e = cc

pub counted_items : (fs : List (List ℕ)) (n : ℕ) → tally (items_of fs) ≡ Ok n → 0 < n → (schedule_of fs ≡ Ok (items_in fs)) × (n ≡ length (items_in fs))
unfolding schedule_of
counted_items [] n e h = let z : 0 ≡ n = cc in absurd (omega arith)
counted_items (f ∷ fs) n e h =
    let t = tally_ok (items_of (f ∷ fs)) n e in
    let same = in_items (f ∷ fs) t.0 t.1 in
    (t.1 ∙ ap (λ (l : List Item). Ok l) (sym same), t.2 ∙ ap length (sym same))

pub refused_items : (fs : List (List ℕ)) (k : FaultKind) → tally (items_of fs) ≡ Err k → schedule_of fs ≡ Err k
unfolding schedule_of
refused_items [] k e = absurd cc
refused_items (f ∷ fs) k e = tally_err (items_of (f ∷ fs)) k e

pub no_items : (fs : List (List ℕ)) → tally (items_of fs) ≡ Ok 0 → schedule_of fs ≡ Err kinds.Operand
unfolding schedule_of
no_items [] e = refl
no_items (f ∷ fs) e =
    let t = tally_ok (items_of (f ∷ fs)) 0 e in
    let h = joined_ok (item_of f) (items_of fs) t.0 t.1 in
    let more : 0 ≡ length (h.0 ∷ h.1) = t.2 ∙ ap length (sym h.4) in
    absurd (omega arith)

pub some_items : (fs : List (List ℕ)) (items : List Item) → schedule_of fs ≡ Ok items → 0 < length items
unfolding schedule_of
some_items [] items e = absurd cc
some_items (f ∷ fs) items e =
    let h = joined_ok (item_of f) (items_of fs) items e in
    omega (arith, ap length h.4)

-- ## After the last field

pub end_beyond : (beyond : Option FaultKind) (n : ℕ) (fs all : List (List ℕ)) (k : FaultKind) → after beyond n (tally (items_of fs)) ≡ tally (items_of all) → fs ≡ [] → beyond ≡ Some k → schedule_of all ≡ Err k
end_beyond beyond n fs all k h e b = refused_items all k (sym h ∙ rw (e, b) refl)

pub end_none : (beyond : Option FaultKind) (n : ℕ) (fs all : List (List ℕ)) → after beyond n (tally (items_of fs)) ≡ tally (items_of all) → fs ≡ [] → beyond ≡ None → n ≡ 0 → schedule_of all ≡ Err kinds.Operand
end_none beyond n fs all h e b z = no_items all (sym h ∙ rw (e, b, z) refl)

pub end_items : (beyond : Option FaultKind) (n : ℕ) (fs all : List (List ℕ)) → after beyond n (tally (items_of fs)) ≡ tally (items_of all) → fs ≡ [] → beyond ≡ None → 0 < n → (schedule_of all ≡ Ok (items_in all)) × (n ≡ length (items_in all))
end_items beyond n fs all h e b some = counted_items all n (sym h ∙ rw (e, b) (ap (λ (m : ℕ). Ok m) (omega arith))) some
