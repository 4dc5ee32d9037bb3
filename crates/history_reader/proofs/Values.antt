-- Digits as bytes, and values of a width.
use Rattle.std.proofs.Common.{◌≡◌, ℕ, ◌*◌, ◌<◌, ◌/◌, ◌%◌, true, eqb, not, ◌&&◌, leb, List, length, replicate, Result, Ok, Err, refl, ◌∙◌, arith, inl, inr, MatchResult}
use Rattle.history_reader.proofs.Common.{Datum, and_parts, decode_of-hex, decode_sized, decoded, decoded_into, eqb-false, is_hex, is_hex_digit, is_lower_digit, is_lower_hex, le-leb, leb-true, list_all, list_all-weaker, low, lt-leb, not-true, or_cases, size_of, take-append-le, take_all}
use Rattle.hex.specs.declared.error.FromHexError.{FromHexError}
use mathlib.Core.HLevel.{is_prop→PathP}
use native.Mathlib.Nat.{ℕ_set}

-- values of one type that have the same bytes are the same
pub same_datum : (d e : Datum) → d.width ≡ e.width → d.bytes.items ≡ e.bytes.items → d ≡ e
same_datum d e w b = λ i. record {
  width = w i;
  bytes = record { items = b i };
  sized = is_prop→PathP (λ j. length (b j) ≡ size_of (w j)) (λ j. ℕ_set (length (b j)) (size_of (w j))) d.sized e.sized i;
}

-- bytes that are as many as the type has are the value's
pub low_is : (n : ℕ) (bytes : List ℕ) → length bytes ≡ n → low n bytes ≡ bytes
low_is n bytes h = take-append-le n bytes (replicate n 0) (omega arith) ∙ take_all n bytes (omega arith)

-- ## Digits in lower case

lower_is : (b : ℕ) → is_lower_digit b ≡ true → is_hex_digit b ≡ true
lower_is b h =
    elim (or_cases (leb 48 b && leb b 57) (leb 97 b && leb b 102) h) [
      | inl d ↦
          let p = and_parts (leb 48 b) (leb b 57) d in
          rw (lt-leb 65 b (omega (arith, leb-true b 57 p.1)), lt-leb 97 b (omega (arith, leb-true b 57 p.1)), p.0, p.1) refl
      | inr d ↦
          let p = and_parts (leb 97 b) (leb b 102) d in
          rw (le-leb 65 b (omega (arith, leb-true 97 b p.0)), lt-leb b 70 (omega (arith, leb-true 97 b p.0)), p.0, p.1) refl
    ]

pub hex_is : (f : List ℕ) → is_lower_hex f ≡ true → is_hex f ≡ true
hex_is f h =
    let a = and_parts (not (eqb (length f) 0)) (eqb (length f % 2) 0 && list_all is_lower_digit f) h in
    let b = and_parts (eqb (length f % 2) 0) (list_all is_lower_digit f) a.1 in
    rw (a.0, b.0) (list_all-weaker is_lower_digit is_hex_digit lower_is f b.1)

pub length-said : (f : List ℕ) → is_lower_hex f ≡ true → length f ≡ 2 * length (decoded f)
length-said f h = (decode_of-hex f (hex_is f h)).1

-- what was decoded into room for just these bytes
pub said_into : (n : ℕ) (f old new : List ℕ) (r : Result (Unit {0}) FromHexError) → is_lower_hex f ≡ true → length f / 2 ≡ n → length old ≡ n
    → MatchResult (decode_sized f (length old)) (λ bytes. (r ≡ Ok tt) × (new ≡ bytes)) (λ e. r ≡ Err e) → new ≡ decoded f
said_into n f old new r h e o m = decoded_into f old new r (hex_is f h) (omega arith) m

-- they are some
pub some_said : (f : List ℕ) → is_lower_hex f ≡ true → 0 < length (decoded f)
some_said f h =
    let a = and_parts (not (eqb (length f) 0)) (eqb (length f % 2) 0 && list_all is_lower_digit f) h in
    let some = eqb-false (length f) 0 (not-true _ a.0) in
    let twice = length-said f h in
    omega arith
