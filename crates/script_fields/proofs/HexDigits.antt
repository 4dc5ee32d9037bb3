-- The bytes that hexadecimal digits say.
use Rattle.std.proofs.Common.{◌≡◌, ℕ, ◌-◌, ◌*◌, ◌/◌, ◌%◌, ◌≤◌, true, eqb, not, ◌&&◌, List, [], ◌++◌, length, drop, replicate, Result, Ok, Err, refl, sym, ap, ◌∙◌, arith, MatchResult}
use Rattle.script_fields.proofs.Common.{AllPass-from_list_all, IsBytes, and_parts, decode_of, decode_of-digits, decode_of-ok, decode_sized, decode_sized-twice, decoded, drop-replicate, eqb-false, eqb-true, is_hex, is_hex_digit, list_all, literal_of, not-true, result_unwrap_or}
use Rattle.hex.specs.declared.error.FromHexError.{FromHexError}

-- digits are decoded to bytes, two digits for each byte
pub decode_of-hex : (f : List ℕ) → is_hex f ≡ true → (decode_of f ≡ Ok (decoded f)) × (length f ≡ 2 * length (decoded f)) × IsBytes (decoded f)
decode_of-hex f h =
    let a = and_parts (not (eqb (length f) 0)) (eqb (length f % 2) 0 && list_all is_hex_digit f) h in
    let b = and_parts (eqb (length f % 2) 0) (list_all is_hex_digit f) a.1 in
    let even : length f % 2 ≡ 0 = eqb-true (length f % 2) 0 b.0 in
    let d = decode_of-digits f even (AllPass-from_list_all is_hex_digit f b.1) in
    let same : decode_of f ≡ Ok (decoded f) = d.1 ∙ ap (λ (bytes : List ℕ). Ok bytes) (sym (ap (λ (r : Result (List ℕ) FromHexError). result_unwrap_or r []) d.1)) in
    let ok = decode_of-ok f (decoded f) same in
    (same, ok.2, ok.3)

-- some bytes, since there are some digits
pub hex_said : (f : List ℕ) → is_hex f ≡ true → IsBytes (decoded f) × (1 ≤ length (decoded f)) × (length f ≡ 2 * length (decoded f))
hex_said f h =
    let d = decode_of-hex f h in
    let some = eqb-false (length f) 0 (not-true _ (and_parts _ _ h).0) in
    (d.2, omega (arith, d.1, some), d.1)

-- two digits for each byte
pub length-decoded : (f : List ℕ) → is_hex f ≡ true → length f / 2 ≡ length (decoded f)
length-decoded f h = omega (arith, (decode_of-hex f h).1)

pub decoded_is : (f bytes : List ℕ) → decode_of f ≡ Ok bytes → decoded f ≡ bytes
decoded_is f bytes e = ap (λ (r : Result (List ℕ) FromHexError). result_unwrap_or r []) e

-- what was decoded into room for just these bytes
pub decoded_into : (f old new : List ℕ) (r : Result (Unit {0}) FromHexError) → is_hex f ≡ true → length old ≡ length f / 2
    → MatchResult (decode_sized f (length old)) (λ bytes. (r ≡ Ok tt) × (new ≡ bytes)) (λ e. r ≡ Err e) → new ≡ decoded f
decoded_into f old new r h e m =
    let twice : length f ≡ 2 * length old = omega (arith, (decode_of-hex f h).1) in
    let sized : decode_sized f (length old) ≡ Ok (decoded f) = decode_sized-twice f (length old) twice ∙ (decode_of-hex f h).0 in
    (rw sized at m).1

-- the bytes, and the zeros that were left after them
pub literal_is : (f new rest : List ℕ) → is_hex f ≡ true → length f ≤ 64 → new ≡ decoded f → rest ≡ drop (length f / 2) (replicate 32 0)
    → record { bytes = new ++ rest; count = length f / 2 } ≡ literal_of (decoded f)
literal_is f new rest h few e z =
    let n = length-decoded f h in
    let zeros : rest ≡ replicate (32 - length (decoded f)) 0 = z ∙ drop-replicate (length f / 2) 32 0 ∙ ap (λ (k : ℕ). replicate (32 - k) 0) n in
    rw (e, zeros, n) refl
