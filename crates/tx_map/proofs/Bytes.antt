-- A word written into the bytes of a map.
use Rattle.std.proofs.Common.{◌≡◌, ◌≢◌, ◌∙◌, ◌⊎◌, inl, inr, ℕ, ◌+◌, ◌-◌, ◌*◌, ◌/◌, ◌%◌, ◌^◌, ◌<◌, ◌≤◌, List, ◌++◌, length, take, drop, replicate, ap, sym, arith, length-append, length-take}
use Rattle.tx_map.proofs.Common.{HasMap, IsEmpty, SameBeside, cases_order, from_le_bytes, from_le_bytes-to_le_bytes_8, pair_of, slice, slots_in, to_le_bytes, w64, with_slice}
use Rattle.word_pieces.proofs.Lists.{length-with_slice, slice-with_slice, slice-below, slice-above, take-with_slice}
use Rattle.std.proofs.lemmas.List.{drop_at, drop-drop, drop-replicate, length-replicate, take-replicate, take-take}

pub pair_back : (a b : ℕ) → a < 2 ^ 32 → b < 2 ^ 32 → pair_of (a + 2 ^ 32 * b) ≡ (a, b)
pair_back a b h k =
    let low : (a + 2 ^ 32 * b) % 2 ^ 32 ≡ a = omega arith in
    let high : (a + 2 ^ 32 * b) / 2 ^ 32 ≡ b = omega arith in
    λ i. (low i, high i)

pub small_pair : (a b : ℕ) → a < 2 ^ 32 → b < 2 ^ 32 → a + 2 ^ 32 * b < 2 ^ 64
small_pair a b h k = omega arith

-- a word that fits 64 bits is read from its bytes
pub pair_read : (bytes : List ℕ) (first i n : ℕ) → n < 2 ^ 64 → slice bytes (first + 8 * i) 8 ≡ to_le_bytes w64 n → slots_in bytes first i ≡ pair_of n
pair_read bytes first i n fits e = ap (λ (ws : List ℕ). pair_of (from_le_bytes w64 ws)) e ∙ ap pair_of (from_le_bytes-to_le_bytes_8 n fits)

-- what lies behind a part that is replaced
past : (xs ys : List ℕ) (at : ℕ) → at + length ys ≤ length xs → drop (at + length ys) (with_slice xs at ys) ≡ drop (at + length ys) xs
past xs ys at l = drop_at (take at xs ++ ys) (drop (at + length ys) xs) (at + length ys) (omega (arith, length-append (take at xs) ys, length-take at xs))

module _ (bytes new : List ℕ) (first count i key value : ℕ) (room : first + 8 * count ≤ length bytes) (few : i < count) (low : key < 2 ^ 32) (high : value < 2 ^ 32) (is : new ≡ with_slice bytes (first + 8 * i) (to_le_bytes w64 (key + 2 ^ 32 * value))) where
  fits : first + 8 * i + 8 ≤ length bytes
  fits = omega arith

  pub slot_put : slots_in new first i ≡ (key, value)
  slot_put =
      pair_read new first i (key + 2 ^ 32 * value) (small_pair key value low high)
      (ap (λ (bs : List ℕ). slice bs (first + 8 * i) 8) is ∙ slice-with_slice bytes (to_le_bytes w64 (key + 2 ^ 32 * value)) (first + 8 * i) fits)
      ∙ pair_back key value low high

  pub slot_kept : (j : ℕ) → j < count → j ≢ i → slots_in new first j ≡ slots_in bytes first j
  slot_kept j h away =
      ap (λ (bs : List ℕ). pair_of (from_le_bytes w64 (slice bs (first + 8 * j) 8))) is ∙ ap (λ (ws : List ℕ). pair_of (from_le_bytes w64 ws)) (by (side j i away))
    where
      side : (j i : ℕ) → j ≢ i → (j < i) ⊎ (i < j)
      side j i away = split (cases_order j i)
        where
          split : (j ≡ i) ⊎ ((j < i) ⊎ (i < j)) → (j < i) ⊎ (i < j)
          split (inl e) = absurd (away e)
          split (inr s) = s

      by : (j < i) ⊎ (i < j) → slice (with_slice bytes (first + 8 * i) (to_le_bytes w64 (key + 2 ^ 32 * value))) (first + 8 * j) 8 ≡ slice bytes (first + 8 * j) 8
      by (inl l) = slice-below bytes (to_le_bytes w64 (key + 2 ^ 32 * value)) (first + 8 * i) (first + 8 * j) 8 (omega arith) (omega (arith, fits))
      by (inr l) = slice-above bytes (to_le_bytes w64 (key + 2 ^ 32 * value)) (first + 8 * i) (first + 8 * j) 8 (omega arith) fits

  pub length_kept : length new ≡ length bytes
  length_kept = ap length is ∙ length-with_slice bytes (to_le_bytes w64 (key + 2 ^ 32 * value)) (first + 8 * i) fits

  pub beside : SameBeside first count bytes new
  beside = record {
    length_is = length_kept;
    below = ap (take first) is ∙ take_less;
    above = ap (drop (first + 8 * count)) is ∙ drop_more;
  }
    where
      at : ℕ
      at = first + 8 * i

      take_less : take first (with_slice bytes (first + 8 * i) (to_le_bytes w64 (key + 2 ^ 32 * value))) ≡ take first bytes
      take_less =
          sym (take-take first at (with_slice bytes at (to_le_bytes w64 (key + 2 ^ 32 * value))) (omega arith))
          ∙ ap (take first) (take-with_slice bytes (to_le_bytes w64 (key + 2 ^ 32 * value)) at (omega (arith, fits)))
          ∙ take-take first at bytes (omega arith)

      over : ℕ
      over = 8 * count - 8 * i - 8

      split : at + 8 + over ≡ first + 8 * count
      split = omega arith

      drop_more : drop (first + 8 * count) (with_slice bytes (first + 8 * i) (to_le_bytes w64 (key + 2 ^ 32 * value))) ≡ drop (first + 8 * count) bytes
      drop_more =
          ap (λ k. drop k (with_slice bytes at (to_le_bytes w64 (key + 2 ^ 32 * value)))) (sym split)
          ∙ sym (drop-drop over (at + 8) (with_slice bytes at (to_le_bytes w64 (key + 2 ^ 32 * value))))
          ∙ ap (drop over) (past bytes (to_le_bytes w64 (key + 2 ^ 32 * value)) at fits)
          ∙ drop-drop over (at + 8) bytes
          ∙ ap (λ k. drop k bytes) split

-- bytes of 0 have a map with no key
slice_zero : (n at size : ℕ) → at + size ≤ n → slice {X = ℕ} (replicate n 0) at size ≡ replicate size 0
slice_zero n at size h = ap (take size) (drop-replicate at n 0) ∙ take-replicate size (n - at) 0 (omega arith)

zeros_free : (n first count : ℕ) → first + 8 * count ≤ n → (i : ℕ) → i < count → slots_in (replicate n 0) first i ≡ (0, 0)
zeros_free n first count h i l = ap (λ (ws : List ℕ). pair_of (from_le_bytes w64 ws)) (slice_zero n (first + 8 * i) 8 (omega arith))

zeros_map : (n first count : ℕ) → first + 8 * count ≤ n → HasMap first count (replicate n 0)
zeros_map n first count h = record {
  room = omega (arith, length-replicate {A = ℕ} n 0);
  map = record { reached = λ i l taken. absurd (taken (ap (λ (x : ℕ × ℕ). x.0) (zeros_free n first count h i l))) };
}

pub zeros_empty : (n first count : ℕ) → first + 8 * count ≤ n → IsEmpty first count (replicate n 0)
zeros_empty n first count h = record { map = zeros_map n first count h; free = λ i l. ap (λ (x : ℕ × ℕ). x.0) (zeros_free n first count h i l) }
