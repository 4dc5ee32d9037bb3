-- What is read of a field is so spelled.
use Rattle.std.proofs.Common.{◌≡◌, ℕ, ◌<◌, ◌≤◌, true, eqb, ltb, not, ◌&&◌, List, [], ◌∷◌, length, get_or, Option, Some, None, Result, Ok, Err, sym, subst, arith, inl, inr, decimal, bytes_eq}
use Rattle.history_reader.proofs.Common.{AllByRecursion, FaultKind, IfOk, IfSome, IsWord, and_parts, bind_if, bytes_eq-Decides, cases_Bool, choice_if, decimal-digits_value, eqb-false, exactly, function, lookup, ltb-false, not-true, number, number_if, or_operand, own, ranged, told, within, within_if}
use Rattle.script_fields.specs.declared.fault.FaultKind.TheVariants as kinds

-- what is read is so spelled, and is so
abbrev pub Exact : {A : Type 0} → (List ℕ → Result A FaultKind) → (A → List ℕ) → (A → Type 0) → Type 0
Exact {A} read text Is = (f : List ℕ) → IfOk (read f) (λ x. (f ≡ text x) × Is x)

-- a reading of fields, as one of their line
pub told_if : {A : Type 0} (P : A → Type 0) (r : Result A FaultKind) → IfOk r P → IfOk (told r) P
told_if P (Ok x) h = h
told_if P (Err k) h = tt

-- ## Words

pub exactly_is : (text : List ℕ) → Exact (exactly text) (λ u. text) (λ u. Unit {0})
exactly_is text f = choice_if _ (bytes_eq f text) (Ok tt) (Err kinds.Operand) (λ same. ((bytes_eq-Decides f text).0 same, tt)) (λ other. tt)

-- where so is each row, what is found by its name is so
pub lookup_if : {A : Type 0} (P : List ℕ → A → Type 0) (rows : List (List ℕ × A)) (f : List ℕ) → AllByRecursion (λ row. P row.0 row.1) rows → IfSome (lookup rows f) (P f)
lookup_if P [] f h = tt
lookup_if P (row ∷ rows) f h =
    elim (cases_Bool (bytes_eq row.0 f)) [
      | inl same ↦ rw same (subst (λ (g : List ℕ). P g row.1) ((bytes_eq-Decides row.0 f).0 same) h.0)
      | inr other ↦ rw other (lookup_if P rows f h.1)
    ]

pub or_operand_if : {A : Type 0} (P : A → Type 0) (o : Option A) → IfSome o P → IfOk (or_operand o) P
or_operand_if P (Some x) h = h
or_operand_if P None h = tt

-- ## Numbers

front : (f : List ℕ) → not (eqb (get_or f 0 0) 48 && ltb 1 (length f)) ≡ true → 0 < length f → get_or f 0 0 ≡ 48 → length f ≡ 1
front f h some e =
    elim (cases_Bool (ltb 1 (length f))) [
      | inl long ↦ let no : not (true && true) ≡ true = rw (e, long) at h in absurd cc
      | inr short ↦ let one = ltb-false 1 (length f) short in omega arith
    ]

pub number_is : Exact number decimal IsWord
number_is f =
    number_if f (λ n. (f ≡ decimal n) × IsWord n)
    (λ good small.
    let a = and_parts _ _ good in
    let b = and_parts _ _ a.1 in
    let none : length f ≡ 0 → ⊥ = eqb-false (length f) 0 (not-true _ a.0) in
    let some : 0 < length f = omega arith in
    (sym (decimal-digits_value own f b.1 some (front f b.0 some) small), small))

pub ranged_is : (low high : ℕ) → Exact (ranged low high) decimal (λ n. (low ≤ n) × (n ≤ high))
unfolding ranged
ranged_is low high f = bind_if _ _ (number f) (within low high) (number_is f) (λ n e. within_if low high n (λ m. (f ≡ decimal m) × ((low ≤ m) × (m ≤ high))) (λ least most. (e.0, (least, most))))

pub function_is : Exact function decimal (λ n. n ≤ 4294967295)
unfolding function
function_is f = bind_if _ _ (number f) (within 0 4294967295) (number_is f) (λ n e. within_if 0 4294967295 n (λ m. (f ≡ decimal m) × (m ≤ 4294967295)) (λ least most. (e.0, most)))
