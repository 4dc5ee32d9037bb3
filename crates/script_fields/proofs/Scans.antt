-- The first byte that passes a test, looked for many bytes at a time through the mask of those that pass.
use Rattle.std.proofs.Common.{◌≡◌, ◌≢◌, ℕ, ◌+◌, ◌*◌, ◌%◌, ◌^◌, ◌<◌, ◌≤◌, Bool, true, false, not, ◌||◌, cond, eqb, ltb, Some, None, position, List, [], ◌∷◌, map, length, drop, replicate, refl, ap, ap₂, ◌∙◌, sym, arith}
use Rattle.script_fields.proofs.Common.{chunk-drop, eq-eqb, le-ltb, leading_from_mask_l, length-chunk, length-drop, length-map, lt-ltb, mask_l-mod, ne_eqb, position_or_len, prefix_len-append, prefix_len-le-length, trailing_mask_l, zip2_splat}
use Rattle.std.specs.Simd.Lanes.{chunk, mask_l, top, zip2}
use lib.Bits.{bit_or}
use lib.Count.{count_trailing_zeros}
use Rattle.script_fields.proofs.FirstLines.{at_is, at_none}

none_pass : (b : Bool) (n l m : ℕ) → n ≤ l → cond (not b) (1 + n) 0 ≡ 1 + l → (n ≡ l → m ≡ 0) → cond b 1 0 + 2 * m ≡ 0
none_pass true n l m le e ih = let no : ⊥ = omega arith in absurd no
none_pass false n l m le e ih = let z = ih (omega arith) in omega arith

module _ (p : ℕ → Bool) where
  no_bit : (xs : List ℕ) → position_or_len p xs ≡ length xs → mask_l (map p xs) ≡ 0
  no_bit [] e = refl
  no_bit (x ∷ xs) e = none_pass (p x) _ (length xs) _ (prefix_len-le-length (λ y. not (p y)) xs) (omega arith) (no_bit xs)

  in_two : (d : List ℕ) (i n : ℕ) → position_or_len p (drop i d) ≡ cond (eqb (position_or_len p (chunk i n d)) (length (chunk i n d))) (length (chunk i n d) + position_or_len p (drop (i + n) d)) (position_or_len p (chunk i n d))
  in_two d i n = ap (position_or_len p) (chunk-drop i n d) ∙ prefix_len-append (λ x. not (p x)) (chunk i n d) (drop (i + n) d)

  placed : (d : List ℕ) (k : ℕ) → position_or_len p d ≡ k → k < length d → Some k ≡ position p d
  placed d k e h = sym (ap (λ (n : ℕ). cond (ltb n (length d)) (Some n) None) e ∙ ap (λ (t : Bool). cond t (Some k) None) (lt-ltb k (length d) h))

  -- no bit is set: the first is past the chunk
  pub goes_on : (d : List ℕ) (i n : ℕ) → i + n ≤ length d → mask_l (map p (chunk i n d)) ≡ 0 → position_or_len p (drop i d) ≡ n + position_or_len p (drop (i + n) d)
  goes_on d i n room none =
      let c = chunk i n d in
      in_two d i n ∙ ap (λ b. cond b (length c + position_or_len p (drop (i + n) d)) (position_or_len p c)) (eq-eqb _ _ (leading_from_mask_l p c none))
      ∙ ap (λ k. k + position_or_len p (drop (i + n) d)) (length-chunk i n d room)

  -- a bit is set: the lowest is the first
  stops : (d : List ℕ) (i n : ℕ) → i + n ≤ length d → n ≤ 64 → 0 < mask_l (map p (chunk i n d)) → position_or_len p (drop i d) ≡ count_trailing_zeros 64 (mask_l (map p (chunk i n d)))
  stops d i n room short some =
      let c = chunk i n d in
      in_two d i n ∙ ap (λ b. cond b (length c + position_or_len p (drop (i + n) d)) (position_or_len p c)) (ne_eqb _ _ (λ (e : position_or_len p c ≡ length c). omega (arith, no_bit c e)))
      ∙ sym (trailing_mask_l p 64 c (omega (arith, length-chunk i n d room)) some)

  within : (d : List ℕ) (i n : ℕ) → i + n ≤ length d → n ≤ 64 → 0 < mask_l (map p (chunk i n d)) → i + position_or_len p (drop i d) < length d
  within d i n room short some =
      let c = chunk i n d in
      let same : position_or_len p (drop i d) ≡ position_or_len p c = stops d i n room short some ∙ trailing_mask_l p 64 c (omega (arith, length-chunk i n d room)) some in
      let other : position_or_len p c ≢ length c = λ (e : position_or_len p c ≡ length c). omega (arith, no_bit c e) in
      omega (arith, same, other, prefix_len-le-length (λ x. not (p x)) c, length-chunk i n d room)

  -- the first is where the lowest bit is
  pub here : (d : List ℕ) (i n m : ℕ) → position_or_len p d ≡ i + position_or_len p (drop i d) → i + n ≤ length d → n ≤ 64 → m ≡ mask_l (map p (chunk i n d)) → 0 < m → Some (i + count_trailing_zeros 64 m) ≡ position p d
  here d i n m e room short is some =
      let at = stops d i n room short (omega (arith, is)) ∙ ap (count_trailing_zeros 64) (sym is) in
      let low = within d i n room short (omega (arith, is)) in
      placed d (i + count_trailing_zeros 64 m) (omega (arith, e, at)) (omega (arith, at, low))

  -- the first is past the bytes that were looked at
  pub further : (d : List ℕ) (i k : ℕ) → position_or_len p d ≡ i + position_or_len p (drop i d) → i ≤ length d → Some k ≡ position p (drop i d) → Some (i + k) ≡ position p d
  further d i k e h f = let at = at_is p (drop i d) k f in placed d (i + k) (omega (arith, e, at.0)) (omega (arith, at.0, at.1, length-drop i d))

  pub nowhere : (d : List ℕ) (i : ℕ) → position_or_len p d ≡ i + position_or_len p (drop i d) → i ≤ length d → None ≡ position p (drop i d) → None ≡ position p d
  nowhere d i e h f = sym (ap (λ (t : Bool). cond t (Some (position_or_len p d)) None) (le-ltb _ _ (omega (arith, e, at_none p (drop i d) f, length-drop i d))))

-- a lane of a comparison
abbrev hit : ℕ → ℕ → ℕ
hit a b = cond (eqb a b) 255 0

top_of_either : (a b : Bool) → top 7 (bit_or (cond a 255 0) (cond b 255 0)) ≡ (a || b)
top_of_either true true = refl
top_of_either true false = refl
top_of_either false true = refl
top_of_either false false = refl

tops_of_either : (y z : ℕ) (v : List ℕ) → map (top 7) (zip2 bit_or (map (λ x. hit x y) v) (map (λ x. hit x z) v)) ≡ map (λ x. eqb x y || eqb x z) v
tops_of_either y z [] = refl
tops_of_either y z (x ∷ xs) = ap₂ (λ a b. a ∷ b) (top_of_either (eqb x y) (eqb x z)) (tops_of_either y z xs)

-- the mask of the lanes that are one of two bytes
pub mask_of_either : (y z n : ℕ) (v : List ℕ) → length v ≡ n → n ≤ 64
    → mask_l (map (top 7) (zip2 bit_or (zip2 hit v (replicate n y)) (zip2 hit v (replicate n z)))) % 2 ^ 64 ≡ mask_l (map (λ x. eqb x y || eqb x z) v)
mask_of_either y z n v long short =
    ap (λ l. mask_l l % 2 ^ 64) (ap (map (top 7)) (ap₂ (zip2 bit_or) (zip2_splat hit v n y long) (zip2_splat hit v n z long)) ∙ tops_of_either y z v)
    ∙ mask_l-mod (map (λ x. eqb x y || eqb x z) v) 64 (omega (arith, length-map v (λ x. eqb x y || eqb x z)))
