-- Numbers that are written are read as they were, and what is read as a number was written so.
use Rattle.std.proofs.Common.{◌≡◌, ◌≢◌, ℕ, zero, suc, ◌^◌, ◌<◌, ◌≤◌, Bool, true, false, cond, ltb, leb, eqb, not, ◌&&◌, List, length, get_or, Some, None, Ok, Err, refl, ap, arith, rules, lit<, inl, inr, decimal, [], ◌∷◌}
use Rattle.script_fields.proofs.Common.{All-weaker, AllPass-from_list_all, IfOk, IsField, and_parts, cases_Bool, decimal_digit, decimal_nonempty, digits_decimal, digits_value-decimal, first_decimal, function, in_range, is_digit, is_field_byte, is_number, le-leb, leb-true, limit_of, list_all, list_all-from_AllPass, lt-ltb, ltb-true, ne_eqb, number, one, value_after, value_of, within}
use Rattle.std.proofs.lemmas.Str.Parse.{IsNumeralModel, numerals_by_fold}
use Rattle.script_fields.specs.declared.fault.FaultKind.TheVariants as kinds
use Rattle.script_fields.proofs.Readings.{choice_if}

pub own : IsNumeralModel (λ ds. list_all is_digit ds ≡ true) (value_after 0)
own = numerals_by_fold _ (search rules) value_after (search rules)

pub digits_again : (n : ℕ) → n < 2 ^ 64 → list_all is_digit (decimal n) ≡ true
digits_again n h = digits_decimal own n h

no_zero_front : (n : ℕ) → 0 < n → n < 2 ^ 64 → get_or (decimal n) 0 0 ≢ 48
no_zero_front n p h e = omega (arith, first_decimal n p h)

front_again : (n : ℕ) → n < 2 ^ 64 → (eqb (get_or (decimal n) 0 0) 48 && ltb 1 (length (decimal n))) ≡ false
front_again zero h = rw (decimal_digit 0 (lit< tt)) refl
front_again (suc n) h = ap (λ (t : Bool). t && ltb 1 (length (decimal (suc n)))) (ne_eqb _ 48 (no_zero_front (suc n) (omega arith) h))

-- a number's digits are read as the number
pub number_again : (n : ℕ) → n < 2 ^ 64 → number (decimal n) ≡ Ok n
unfolding number value_of
number_again n h =
    let some : eqb (length (decimal n)) 0 ≡ false = ne_eqb _ 0 (λ e. omega (arith, decimal_nonempty n h)) in
    let digits = digits_again n h in
    let front : (eqb (get_or (decimal n) 0 0) 48 && ltb 1 (length (decimal n))) ≡ false = front_again n h in
    rw (some, front, digits, digits_value-decimal own n h, lt-ltb n (2 ^ 64) h) refl

-- a number between the two is left as it is
pub within_again : (low high n : ℕ) → low ≤ n → n ≤ high → within low high n ≡ Ok n
within_again low high n l h = rw (le-leb low n l, le-leb n high h) refl

pub limit_of_again : (low high n : ℕ) → low ≤ n → n ≤ high → n < 2 ^ 64 → limit_of low high (decimal n ∷ []) ≡ Ok n
unfolding limit_of one
limit_of_again low high n l h small = rw (number_again n small) (within_again low high n l h)

pub function_again : (n : ℕ) → n < 2 ^ 32 → function (decimal n) ≡ Ok n
unfolding function
function_again n h = rw (number_again n (omega arith)) (within_again 0 4294967295 n (omega arith) (omega arith))

-- ## Fields

-- what passes the first test passes the second
pub list_all-weaker : (p q : ℕ → Bool) → ((b : ℕ) → p b ≡ true → q b ≡ true) → (bs : List ℕ) → list_all p bs ≡ true → list_all q bs ≡ true
list_all-weaker p q f bs h = list_all-from_AllPass q bs (All-weaker (λ (b : ℕ). p b ≡ true) (λ (b : ℕ). q b ≡ true) f bs (AllPass-from_list_all p bs h))

-- a visible byte that is not `;`
pub field_byte : (b : ℕ) → 33 ≤ b → b ≤ 126 → b ≢ 59 → is_field_byte b ≡ true
field_byte b low high not = rw (le-leb 33 b low, le-leb b 126 high, ne_eqb b 59 not) refl

digit_byte : (b : ℕ) → is_digit b ≡ true → is_field_byte b ≡ true
digit_byte b h =
    let parts = and_parts (leb 48 b) (leb b 57) h in
    let low = leb-true 48 b parts.0 in
    let high = leb-true b 57 parts.1 in
    field_byte b (omega arith) (omega arith) (λ e. omega arith)

pub decimal_field : (n : ℕ) → n < 2 ^ 64 → IsField (decimal n)
decimal_field n h = (decimal_nonempty n h, list_all-weaker is_digit is_field_byte digit_byte (decimal n) (digits_again n h))

-- ## What is read

value_if : (v : ℕ) (P : ℕ → Type 0) → (v < 2 ^ 64 → P v) → IfOk (in_range (cond (ltb v (2 ^ 64)) (Some v) None)) P
value_if v P f =
    elim (cases_Bool (ltb v (2 ^ 64))) [
      | inl fits ↦ rw fits (f (ltb-true _ _ fits))
      | inr big ↦ rw big tt
    ]

-- what is read as a number is the value of its digits, which fits
pub number_if : (f : List ℕ) (P : ℕ → Type 0) → (is_number f ≡ true → value_after 0 f < 2 ^ 64 → P (value_after 0 f)) → IfOk (number f) P
unfolding number value_of
number_if f P h =
    choice_if P (is_number f) (in_range (cond (ltb (value_after 0 f) (2 ^ 64)) (Some (value_after 0 f)) None)) (Err kinds.Operand) (λ good. value_if (value_after 0 f) P (h good)) (λ bad. tt)

-- it has at most 64 bits
pub number_form : (f : List ℕ) → IfOk (number f) (λ n. n < 2 ^ 64)
number_form f = number_if f (λ n. n < 2 ^ 64) (λ good small. small)

-- a number between the two
pub within_if : (low high n : ℕ) (P : ℕ → Type 0) → (low ≤ n → n ≤ high → P n) → IfOk (within low high n) P
within_if low high n P h =
    choice_if P (leb low n && leb n high) (Ok n) (Err kinds.Range)
    (λ good. let p = and_parts (leb low n) (leb n high) good in h (leb-true low n p.0) (leb-true n high p.1)) (λ bad. tt)
