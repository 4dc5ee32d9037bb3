-- Laws of laying what stands at the places of a journal over what stood there before.
use Rattle.std.proofs.Common.{◌≡◌, ◌⊎◌, inl, inr, ℕ, ◌+◌, ◌-◌, ◌<◌, ◌≤◌, List, [], ◌∷◌, ◌++◌, length, get_or, take, drop, ap, sym, ◌∙◌, arith, add-one, drop-cons}
use Rattle.itm_types.proofs.Elements.{all_at}
use Rattle.itm_model.proofs.Common.{AreWithin, Old, common_steps, get_or-drop, get_or-take, put_back, same_number_lists, slice, take-add, take-append-drop, with_slice}
use Rattle.itm_model.proofs.Journals.Rollbacks.{length-with_slice, length-slice, length-put_back}

-- a byte outside a slice that is replaced
pub byte_outside : (b : List ℕ) (p : ℕ) (new : List ℕ) (i : ℕ) → p + length new ≤ length b → (i < p) ⊎ (p + length new ≤ i) → get_or (with_slice b p new) i 0 ≡ get_or b i 0
byte_outside b p new i h (inl l) = grind (arith, common_steps)
byte_outside b p new i h (inr l) = grind (arith, common_steps)

-- and one within it
pub byte_within : (b : List ℕ) (p : ℕ) (new : List ℕ) (i : ℕ) → p + length new ≤ length b → p ≤ i → i < p + length new → get_or (with_slice b p new) i 0 ≡ get_or new (i - p) 0
byte_within b p new i h l m = grind (arith, common_steps)

-- a byte of a slice
pub byte_of_slice : (m : List ℕ) (p n i : ℕ) → p ≤ i → i < p + n → get_or (slice m p n) (i - p) 0 ≡ get_or m i 0
byte_of_slice m p n i l h = get_or-take n (drop p m) (i - p) 0 (omega arith) ∙ (get_or-drop p m (i - p) 0 ∙ ap (λ (t : ℕ). get_or m t 0) (omega arith))

-- one slice of a memory is laid over other bytes
abbrev pub laid_one : Old → List ℕ → List ℕ → List ℕ
laid_one o m b = with_slice b o.place (slice m o.place (length o.bytes.items))

-- what stands in a memory is laid over other bytes at the places of the journal
abbrev pub laid_over : List Old → List ℕ → List ℕ → List ℕ
laid_over [] m b = b
laid_over (o ∷ os) m b = laid_over os m (laid_one o m b)

length-laid_one : (o : Old) (m b : List ℕ) → o.place + length o.bytes.items ≤ length m → length b ≡ length m → length (laid_one o m b) ≡ length m
length-laid_one o m b h e = let n = length-slice m o.place (length o.bytes.items) h in length-with_slice b o.place (slice m o.place (length o.bytes.items)) (omega (arith, n)) ∙ e

-- a byte that was put back, or is that of the memory already
abbrev Known : List ℕ → List ℕ → List ℕ → ℕ → Type 0
Known old m b i = (get_or old i 0 ≡ get_or b i 0) ⊎ (get_or b i 0 ≡ get_or m i 0)

known_next : (o : Old) (old m b : List ℕ) (i : ℕ) → o.place + length o.bytes.items ≤ length m → length old ≡ length m → length b ≡ length m
    → Known (with_slice old o.place o.bytes.items) m b i → Known old m (laid_one o m b) i
known_next o old m b i h e f known =
    grind (arith, byte_outside, byte_within, byte_of_slice, length-slice m o.place (length o.bytes.items) h)

laid_byte : (os : List Old) (m b : List ℕ) (i : ℕ) → AreWithin (length m) os → length b ≡ length m → Known (put_back os m) m b i → get_or (laid_over os m b) i 0 ≡ get_or m i 0
laid_byte [] m b i w e (inl k) = sym k
laid_byte [] m b i w e (inr k) = k
laid_byte (o ∷ os) m b i w e known = laid_byte os m (laid_one o m b) i w.1 (length-laid_one o m b w.0 e) (known_next o (put_back os m) m b i w.0 (length-put_back os m w.1) e known)

pub length-laid_over : (os : List Old) (m b : List ℕ) → AreWithin (length m) os → length b ≡ length m → length (laid_over os m b) ≡ length m
length-laid_over [] m b w e = e
length-laid_over (o ∷ os) m b w e = length-laid_over os m (laid_one o m b) w.1 (length-laid_one o m b w.0 e)

-- the memory stands again
pub laid_again : (os : List Old) (m b : List ℕ) → AreWithin (length m) os → b ≡ put_back os m → laid_over os m b ≡ m
laid_again os m b w e =
    let size : length b ≡ length m = ap (length {A = ℕ}) e ∙ length-put_back os m w in
    same_number_lists (laid_over os m b) m (length-laid_over os m b w size) (λ i h. laid_byte os m b i w size (inl (ap (λ (t : List ℕ). get_or t i 0) (sym e))))

-- ## One entry after the other

pub laid_next : (os : List Old) (i : ℕ) (d : Old) (m b : List ℕ) → i < length os → laid_over (drop i os) m b ≡ laid_over (drop (i + 1) os) m (laid_one (get_or os i d) m b)
laid_next os i d m b h = rw (add-one) (ap (λ (t : List Old). laid_over t m b) (drop-cons os i d h))

-- the same slice laid over changes nothing
pub slice_same : (b m : List ℕ) (p n : ℕ) → p + n ≤ length b → slice m p n ≡ slice b p n → with_slice b p (slice m p n) ≡ b
slice_same b m p n h e =
    let size : length (slice b p n) ≡ n = length-slice b p n h in
    let own : with_slice b p (slice b p n) ≡ take p b ++ slice b p n ++ drop (p + n) b = ap (λ (t : ℕ). take p b ++ slice b p n ++ drop (p + t) b) size in
    let whole : take p b ++ slice b p n ++ drop (p + n) b ≡ b = ap (λ (t : List ℕ). t ++ drop (p + n) b) (sym (take-add p n b)) ∙ take-append-drop (p + n) b in
    ap (with_slice b p) e ∙ (own ∙ whole)

pub laid_nothing : (os : List Old) (i : ℕ) (d : Old) (m b : List ℕ) → i < length os → AreWithin (length m) os → length b ≡ length m
    → slice m (get_or os i d).place (length (get_or os i d).bytes.items) ≡ slice b (get_or os i d).place (length (get_or os i d).bytes.items)
    → laid_over (drop i os) m b ≡ m → laid_over (drop (i + 1) os) m b ≡ m
laid_nothing os i d m b h w e same rest =
    let o = get_or os i d in
    let within = all_at (λ o. o.place + length o.bytes.items ≤ length m) os i d w h in
    ap (laid_over (drop (i + 1) os) m) (sym (slice_same b m o.place (length o.bytes.items) (omega (arith, within, e)) same)) ∙ (sym (laid_next os i d m b h) ∙ rest)
