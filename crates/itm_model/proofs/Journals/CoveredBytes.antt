-- Laws of bytes that are put back: what stands at them before makes no difference.
use Rattle.std.proofs.Common.{◌≡◌, ◌⊎◌, inl, inr, ℕ, ◌+◌, ◌≤◌, List, [], ◌∷◌, ◌++◌, length, drop, get_or, refl, ap, sym, subst, ◌∙◌, arith}
use Rattle.itm_model.proofs.Common.{AreCovered, AreWithin, IsCovered, Old, drop-append-le, put_back, same_number_lists, slice, with_slice}
use Rattle.itm_model.proofs.Journals.Rollbacks.{length-with_slice, length-put_back, put_back-append}
use Rattle.itm_model.proofs.Journals.LaidBytes.{byte_outside, byte_within, slice_same}

-- at a place the memories have the same byte, or an entry has it
abbrev AlikeAt : List Old → List ℕ → List ℕ → ℕ → Type 0
AlikeAt os m m' i = (get_or m i 0 ≡ get_or m' i 0) ⊎ IsCovered os i

put_back_byte : (os : List Old) (m m' : List ℕ) (i : ℕ) → AreWithin (length m) os → length m' ≡ length m → AlikeAt os m m' i → get_or (put_back os m) i 0 ≡ get_or (put_back os m') i 0
put_back_byte [] m m' i w e (inl same) = same
put_back_byte [] m m' i w e (inr none) = absurd none
put_back_byte (o ∷ os) m m' i w e alike =
    let w' : AreWithin (length m') os = subst (λ (n : ℕ). AreWithin n os) (sym e) w.1 in
    grind (arith, byte_outside, byte_within, length-put_back os m w.1, length-put_back os m' w', put_back_byte os m m' i w.1 e)

alike_written : (os : List Old) (m : List ℕ) (p : ℕ) (new : List ℕ) (i : ℕ) → p + length new ≤ length m → AreCovered os p (length new) → AlikeAt os (with_slice m p new) m i
alike_written os m p new i h c = grind (arith, byte_outside, c i)

-- bytes are written where each is put back
pub covered_write : (os : List Old) (m : List ℕ) (p : ℕ) (new : List ℕ) → AreWithin (length m) os → p + length new ≤ length m → AreCovered os p (length new) → put_back os (with_slice m p new) ≡ put_back os m
covered_write os m p new w h c =
    let m' = with_slice m p new in
    let size : length m' ≡ length m = length-with_slice m p new h in
    let w' : AreWithin (length m') os = subst (λ (n : ℕ). AreWithin n os) (sym size) w in
    same_number_lists (put_back os m') (put_back os m) (length-put_back os m' w' ∙ (size ∙ sym (length-put_back os m w)))
    (λ i k. put_back_byte os m' m i w' (sym size) (alike_written os m p new i h c))

-- a slice of the memory itself comes
pub own_slice : (j : List Old) (m : List ℕ) (o : Old) (n k : ℕ) → o.place + n ≤ length m → o.bytes.items ≡ slice m o.place n → k ≤ length j → put_back (drop k (j ++ o ∷ [])) m ≡ put_back (drop k j) m
own_slice j m o n k h e l =
    ap (λ t. put_back t m) (drop-append-le k j (o ∷ []) l)
    ∙ (put_back-append (drop k j) (o ∷ []) m ∙ ap (put_back (drop k j)) (ap (with_slice m o.place) e ∙ slice_same m m o.place n h refl))
