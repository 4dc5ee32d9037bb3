-- Operands that are written are read as they were.
use Rattle.std.proofs.Common.{◌≡◌, ℕ, suc, ◌-◌, ◌*◌, ◌/◌, ◌%◌, ◌^◌, ◌<◌, ◌≤◌, Bool, true, false, eqb, leb, ltb, List, [], ◌∷◌, ◌++◌, length, take, replicate, Option, Some, None, Result, Ok, Err, refl, sym, ap, subst, ◌∙◌, arith, lit<, decimal, slice_index, cond, not, ◌&&◌}
use Rattle.script_fields.proofs.Common.{All-get_or, AllPass-from_list_all, FaultKind, IfOk, IsBytes, IsField, IsLiteral, IsPlace, Props, R0, and_parts, decimal_nonempty, decode_of-encode_lower, decoded, digits, digits_to, encode_lower, encode_with, eq-eqb, is_digit, is_field_byte, is_hex, is_hex_digit, le-ltb, leb-true, length-append, length-encode_with, length-replicate, length-take, list_all, literal, literal_of, literal_text, lower_digits, ltb-false, mode, mode_text, named, ne_eqb, no_transaction, no_transaction_text, number, or_number, place, place_text, property, props, props_text, register, said_bytes, scope, scope_text, take-append_seam}
use Rattle.script_fields.specs.declared.literal.Literal.{Literal}
use Rattle.script_fields.specs.declared.hex_digits.TheConstants.{MAX_INIT_DIGITS}
use Rattle.script_fields.specs.declared.place.Place.{Place}
use Rattle.script_fields.specs.declared.register.Register.{Register}
use Rattle.script_fields.specs.Registers.{register_name}
use Rattle.script_fields.specs.declared.fault.FaultKind.TheVariants as kinds
use Rattle.script_fields.specs.declared.place.Place.TheVariants as places
use Rattle.script_fields.proofs.HexDigits.{decoded_is, hex_said}
use Rattle.script_fields.proofs.Readings.{choice_if, then_if}
use Rattle.script_fields.proofs.SpelledNumbers.{number_again, number_form, digits_again, decimal_field}

-- ## Registers

named_again : (r : Register) → named (register_name r) ≡ Some r
unfolding named
named_again R0 = refl
named_again r = refl

-- a register's name is read as the register
pub register_again : (r : Register) → register (register_name r) ≡ Ok r
register_again r = rw (named_again r) refl

pub register_field : (r : Register) → IsField (register_name r)
register_field R0 = (lit< tt, refl)
register_field r = (lit< tt, refl)

-- ## Places

-- a name begins with `r`
unnamed : (c : ℕ) (cs : List ℕ) → eqb 114 c ≡ false → named (c ∷ cs) ≡ None
unfolding named
unnamed c cs h = rw h refl

digits_unnamed : (f : List ℕ) → 0 < length f → list_all is_digit f ≡ true → named f ≡ None
digits_unnamed [] some h = absurd (omega arith)
digits_unnamed (c ∷ cs) some h =
    let first = and_parts (is_digit c) (list_all is_digit cs) h in
    let high = leb-true c 57 (and_parts (leb 48 c) (leb c 57) first.0).1 in
    unnamed c cs (ne_eqb 114 c (λ e. omega arith))

-- a place that is written is read as the place
pub place_again : (p : Place) → IsPlace p → place (place_text p) ≡ Ok p
unfolding place
place_again (places.Register r) h = rw (named_again r) refl
place_again (places.Number n) h = rw (digits_unnamed (decimal n) (decimal_nonempty n h) (digits_again n h), number_again n h) refl

pub place_field : (p : Place) → IsPlace p → IsField (place_text p)
place_field (places.Register r) h = register_field r
place_field (places.Number n) h = decimal_field n h

-- ## Bytes

pub encoded_all : (p : ℕ → Bool) → list_all p lower_digits ≡ true → (bytes : List ℕ) → IsBytes bytes → list_all p (encode_lower bytes) ≡ true
unfolding encode_with
encoded_all p t [] h = refl
encoded_all p t (b ∷ rest) h =
    let all = AllPass-from_list_all p lower_digits t in
    let small : b < 256 = h 0 in
    let high : p (slice_index lower_digits (b / 16)) ≡ true = All-get_or (λ (c : ℕ). p c ≡ true) lower_digits (b / 16) 0 (omega arith) all in
    let low : p (slice_index lower_digits (b % 16)) ≡ true = All-get_or (λ (c : ℕ). p c ≡ true) lower_digits (b % 16) 0 (omega arith) all in
    let more = encoded_all p t rest (λ (i : ℕ). h (suc i)) in
    rw (high, low) more

-- digits that pass a test, an even number of them and at least 2
pub even_digits : (p : ℕ → Bool) → list_all p lower_digits ≡ true → (bytes : List ℕ) → IsBytes bytes → 1 ≤ length bytes
    → (not (eqb (length (encode_lower bytes)) 0) && (eqb (length (encode_lower bytes) % 2) 0 && list_all p (encode_lower bytes))) ≡ true
even_digits p t bytes h some =
    let twice = length-encode_with lower_digits bytes in
    let long : eqb (length (encode_lower bytes)) 0 ≡ false = ne_eqb _ 0 (λ e. omega arith) in
    let even : eqb (length (encode_lower bytes) % 2) 0 ≡ true = eq-eqb _ 0 (omega arith) in
    rw (long, even) (encoded_all p t bytes h)

digits_to_again : (most : ℕ) (bytes : List ℕ) → IsBytes bytes → 1 ≤ length bytes → 2 * length bytes ≤ most → digits_to most (encode_lower bytes) ≡ Ok bytes
digits_to_again most bytes h some few =
    let hex : is_hex (encode_lower bytes) ≡ true = even_digits is_hex_digit refl bytes h some in
    let twice = length-encode_with lower_digits bytes in
    let fits : ltb most (length (encode_lower bytes)) ≡ false = le-ltb most _ (omega arith) in
    rw (hex, fits) (ap (λ (bs : List ℕ). Ok bs) (decoded_is _ _ (decode_of-encode_lower bytes h)))

-- bytes for the memory that are written are read as they were
pub digits_again_hex : (bytes : List ℕ) → IsBytes bytes → 1 ≤ length bytes → 2 * length bytes ≤ MAX_INIT_DIGITS → digits (encode_lower bytes) ≡ Ok bytes
unfolding digits
digits_again_hex bytes h some few = digits_to_again MAX_INIT_DIGITS bytes h some few

abbrev made : List ℕ → ℕ → Literal
made bytes count = record { bytes = bytes; count = count }

literal_is : (l : Literal) → IsLiteral l → literal_of (said_bytes l) ≡ l
literal_is l h =
    let count : length (said_bytes l) ≡ l.count = omega (arith, length-take l.count l.bytes, h.high, h.room) in
    let bytes : said_bytes l ++ replicate (32 - length (said_bytes l)) 0 ≡ l.bytes = ap (λ (n : ℕ). said_bytes l ++ replicate (32 - n) 0) count ∙ sym h.zeros in
    ap (λ (bs : List ℕ). made bs (length (said_bytes l))) bytes ∙ ap (made l.bytes) count

-- bytes for a register that are written are read as they were
pub literal_again : (l : Literal) → IsLiteral l → literal (literal_text l) ≡ Ok l
unfolding literal
literal_again l h =
    let count : length (said_bytes l) ≡ l.count = omega (arith, length-take l.count l.bytes, h.high, h.room) in
    rw (digits_to_again 64 (said_bytes l) h.bytes (omega (arith, count, h.low)) (omega (arith, count, h.high))) (ap (λ (k : Literal). Ok k) (literal_is l h))

pub hex_field : (bytes : List ℕ) → IsBytes bytes → 1 ≤ length bytes → IsField (encode_lower bytes)
hex_field bytes h some = (omega (arith, length-encode_with lower_digits bytes), encoded_all is_field_byte refl bytes h)

pub literal_field : (l : Literal) → IsLiteral l → IsField (literal_text l)
literal_field l h = hex_field (said_bytes l) h.bytes (omega (arith, length-take l.count l.bytes, h.low, h.high, h.room))

-- ## Words

made_again : (abort irrevocable goes : Bool) → props (props_text (record { no_abort = abort; no_irrevocable = irrevocable; goes_irrevocable = goes })) ≡ Ok (record { no_abort = abort; no_irrevocable = irrevocable; goes_irrevocable = goes })
unfolding props property
made_again false false false = refl
made_again false true false = refl
made_again true false false = refl
made_again true true false = refl
made_again abort irrevocable goes = refl

-- properties that are written are read as they were
pub props_again : (p : Props) → props (props_text p) ≡ Ok p
props_again p = made_again p.no_abort p.no_irrevocable p.goes_irrevocable

made_field : (abort irrevocable goes : Bool) → IsField (props_text (record { no_abort = abort; no_irrevocable = irrevocable; goes_irrevocable = goes }))
made_field false false false = (lit< tt, refl)
made_field false true false = (lit< tt, refl)
made_field true false false = (lit< tt, refl)
made_field true true false = (lit< tt, refl)
made_field abort irrevocable goes = (lit< tt, refl)

pub props_field : (p : Props) → IsField (props_text p)
props_field p = made_field p.no_abort p.no_irrevocable p.goes_irrevocable

pub scope_again : (outer : Bool) → scope (scope_text outer) ≡ Ok outer
unfolding scope
scope_again false = refl
scope_again true = refl

pub scope_field : (outer : Bool) → IsField (scope_text outer)
scope_field false = (lit< tt, refl)
scope_field true = (lit< tt, refl)

pub mode_again : mode mode_text ≡ Ok tt
unfolding mode
mode_again = refl

pub mode_field : IsField mode_text
mode_field = (lit< tt, refl)

pub no_transaction_again : no_transaction no_transaction_text ≡ Ok tt
unfolding no_transaction
no_transaction_again = refl

pub no_transaction_field : IsField no_transaction_text
no_transaction_field = (lit< tt, refl)

-- ## What is read

some_place : (o : Option Register) (r : Result ℕ FaultKind) → IfOk r (λ n. n < 2 ^ 64) → IfOk (or_number o r) IsPlace
some_place (Some s) r h = tt
some_place None (Ok n) h = h
some_place None (Err k) h = tt

-- what is read as a place is one that a script can say
pub place_form : (f : List ℕ) → IfOk (place f) IsPlace
unfolding place
place_form f = some_place (named f) (number f) (number_form f)

few_bytes : (bytes : List ℕ) → IsBytes bytes → 1 ≤ length bytes → length bytes ≤ 32 → IsLiteral (literal_of bytes)
few_bytes bytes h some few =
    let zeros = replicate (32 - length bytes) 0 in
    let said : take (length bytes) (bytes ++ zeros) ≡ bytes = take-append_seam bytes zeros in
    record {
      low = some;
      high = few;
      room = omega (arith, length-append bytes zeros, length-replicate {A = ℕ} (32 - length bytes) 0);
      zeros = ap (λ (l : List ℕ). l ++ zeros) (sym said);
      bytes = subst IsBytes (sym said) h;
    }

-- bytes are those that their digits say, of which there are so many at most
pub digits_if : (most : ℕ) (f : List ℕ) (P : List ℕ → Type 0) → (is_hex f ≡ true → length f ≤ most → P (decoded f)) → IfOk (digits_to most f) P
digits_if most f P h =
    choice_if P (is_hex f) (cond (ltb most (length f)) (Err kinds.Range) (Ok (decoded f))) (Err kinds.Operand)
    (λ hex. choice_if P (ltb most (length f)) (Err kinds.Range) (Ok (decoded f)) (λ long. tt) (λ short. h hex (ltb-false _ _ short))) (λ bad. tt)

-- what is read as bytes for a register is what a script can say for one
pub literal_form : (f : List ℕ) → IfOk (literal f) IsLiteral
unfolding literal
literal_form f =
    then_if IsLiteral (digits_to 64 f) (λ bytes. Ok (literal_of bytes))
    (digits_if 64 f (λ bytes. IsLiteral (literal_of bytes)) (λ hex few. let d = hex_said f hex in few_bytes (decoded f) d.0 d.1 (omega (arith, d.2))))
