-- Laws of bytes as they were once: of putting them back, and of what is kept.
use Rattle.std.proofs.Common.{◌≡◌, ℕ, zero, suc, ◌+◌, ◌≤◌, List, [], ◌∷◌, ◌++◌, length, take, drop, refl, ap, sym, ◌∙◌, arith, length-append, length-drop, Option, Some}
use Rattle.std.proofs.lemmas.List.{drop-append-le, length-take-le}
use Rattle.itm_types.specs.Slices.{slice, with_slice}
use Rattle.itm_types.specs.KeptBytes.{first_of_two, nothing, also_kept, merged, restored}
use Rattle.itm_types.specs.OldBytes.{Old, AreWithin, put_back, laid, kept_from, kept_of}
use Rattle.itm_types.proofs.KeptBytes.{first_none, length-nothing, merged_assoc, merged_nothing, nothing_same, restored_merged, restored_none}

-- a slice in range keeps the length
pub length-with_slice : (m : List ℕ) (p : ℕ) (new : List ℕ) → p + length new ≤ length m → length (with_slice m p new) ≡ length m
length-with_slice m p new h =
    let b = drop (p + length new) m in
    let whole : length (with_slice m p new) ≡ length (take p m ++ new) + length b = length-append (take p m ++ new) b in
    omega (arith, whole, length-append (take p m) new, length-take-le p m (omega arith), length-drop (p + length new) m)

pub length-slice : {X : Type 0} (m : List X) (p n : ℕ) → p + n ≤ length m → length (slice m p n) ≡ n
length-slice m p n h = length-take-le n (drop p m) (omega (arith, h, length-drop p m))

pub length-put_back : (os : List Old) (m : List ℕ) → AreWithin (length m) os → length (put_back os m) ≡ length m
length-put_back [] m w = refl
length-put_back (o ∷ os) m w =
    let e = length-put_back os m w.1 in
    length-with_slice (put_back os m) o.place o.bytes (omega (arith, w.0, e)) ∙ e

pub put_back-append : (xs ys : List Old) (m : List ℕ) → put_back (xs ++ ys) m ≡ put_back xs (put_back ys m)
put_back-append [] ys m = refl
put_back-append (x ∷ xs) ys m = ap (λ t. with_slice t x.place x.bytes) (put_back-append xs ys m)

-- the newest one put back first
pub put_back-last : (at : ℕ) (xs : List Old) (x : Old) (m : List ℕ) → at ≤ length xs
    → put_back (drop at (xs ++ x ∷ [])) m ≡ put_back (drop at xs) (with_slice m x.place x.bytes)
put_back-last at xs x m h = ap (λ t. put_back t m) (drop-append-le at xs (x ∷ []) h) ∙ put_back-append (drop at xs) (x ∷ []) m

-- ## What is kept

length-laid : (ks : List (Option ℕ)) (p : ℕ) (bs : List ℕ) → length (laid ks p bs) ≡ length ks
length-laid [] p bs = refl
length-laid (k ∷ ks) (suc p) bs = ap suc (length-laid ks p bs)
length-laid (k ∷ ks) zero [] = refl
length-laid (k ∷ ks) zero (b ∷ bs) = ap suc (length-laid ks zero bs)

length-kept_from : (ks : List (Option ℕ)) (os : List Old) → length (kept_from ks os) ≡ length ks
length-kept_from ks [] = refl
length-kept_from ks (o ∷ os) = length-kept_from (laid ks o.place o.bytes) os ∙ length-laid ks o.place o.bytes

length-kept_of : (a : List ℕ) (os : List Old) → length (kept_of a os) ≡ length a
length-kept_of a os = length-kept_from (nothing a) os ∙ length-nothing a

-- what is kept does not depend on the list's bytes
pub kept_of-same : (a b : List ℕ) (os : List Old) → length a ≡ length b → kept_of a os ≡ kept_of b os
kept_of-same a b os h = ap (λ t. kept_from t os) (nothing_same a b h)

kept_from-append : (ks : List (Option ℕ)) (xs ys : List Old) → kept_from ks (xs ++ ys) ≡ kept_from (kept_from ks xs) ys
kept_from-append ks [] ys = refl
kept_from-append ks (x ∷ xs) ys = kept_from-append (laid ks x.place x.bytes) xs ys

-- a logged slice is one laid
laid_is : (ks : List (Option ℕ)) (a : List ℕ) (p n : ℕ) → length ks ≡ length a → p + n ≤ length a → laid ks p (slice a p n) ≡ also_kept ks a p n
laid_is [] a p n e h = refl
laid_is (k ∷ ks) [] p n e h = absurd (omega (arith, e))
laid_is (k ∷ ks) (b ∷ bs) (suc p) n e h = ap (λ t. k ∷ t) (laid_is ks bs p n (omega (arith, e)) (omega (arith, h)))
laid_is (k ∷ ks) (b ∷ bs) zero zero e h = refl
laid_is (k ∷ ks) (b ∷ bs) zero (suc n) e h = ap (λ t. first_of_two k (Some b) ∷ t) (laid_is ks bs zero n (omega (arith, e)) (omega (arith, h)))

-- one slice of the list itself more
pub kept_of-one : (a : List ℕ) (os : List Old) (p n : ℕ) → p + n ≤ length a → kept_of a (os ++ record { place = p; bytes = slice a p n } ∷ []) ≡ also_kept (kept_of a os) a p n
kept_of-one a os p n w =
    kept_from-append (nothing a) os (record { place = p; bytes = slice a p n } ∷ []) ∙ laid_is (kept_of a os) a p n (length-kept_of a os) w

-- ## What the parent keeps with what the child does

merged_laid : (ks : List (Option ℕ)) (a : List ℕ) (p : ℕ) (bs : List ℕ) → length ks ≡ length a → laid ks p bs ≡ merged ks (laid (nothing a) p bs)
merged_laid [] [] p bs e = refl
merged_laid [] (x ∷ xs) p bs e = absurd (omega (arith, e))
merged_laid (k ∷ ks) [] p bs e = absurd (omega (arith, e))
merged_laid (k ∷ ks) (x ∷ xs) (suc p) bs e = (λ i. first_none k i ∷ merged_laid ks xs p bs (omega (arith, e)) i)
merged_laid (k ∷ ks) (x ∷ xs) zero [] e = (λ i. first_none k i ∷ merged_nothing ks xs (omega (arith, e)) i)
merged_laid (k ∷ ks) (x ∷ xs) zero (b ∷ bs) e = ap (λ t. first_of_two k (Some b) ∷ t) (merged_laid ks xs zero bs (omega (arith, e)))

merged_kept : (ks : List (Option ℕ)) (a : List ℕ) (os : List Old) → length ks ≡ length a → kept_from ks os ≡ merged ks (kept_of a os)
merged_kept ks a [] e = merged_nothing ks a e
merged_kept ks a (o ∷ os) e =
    let l = laid (nothing a) o.place o.bytes in
    merged_kept (laid ks o.place o.bytes) a os (length-laid ks o.place o.bytes ∙ e)
    ∙ (ap (λ t. merged t (kept_of a os)) (merged_laid ks a o.place o.bytes e)
    ∙ (merged_assoc ks l (kept_of a os)
    ∙ ap (merged ks) (sym (merged_kept l a os (length-laid (nothing a) o.place o.bytes ∙ length-nothing a)))))

-- the two parts of a log
pub kept_of-append : (a : List ℕ) (xs ys : List Old) → kept_of a (xs ++ ys) ≡ merged (kept_of a xs) (kept_of a ys)
kept_of-append a xs ys = kept_from-append (nothing a) xs ys ∙ merged_kept (kept_of a xs) a ys (length-kept_of a xs)

-- ## What is kept, laid over the arena, is the log put back

restored_laid : (a : List ℕ) (p : ℕ) (bs : List ℕ) → p + length bs ≤ length a → restored (laid (nothing a) p bs) a ≡ with_slice a p bs
restored_laid [] zero [] h = refl
restored_laid [] (suc p) bs h = absurd (omega (arith, h))
restored_laid [] zero (b ∷ bs) h = absurd (omega (arith, h))
restored_laid (x ∷ xs) (suc p) bs h =
    let e : suc (p + length bs) ≡ suc p + length bs = omega arith in
    ap (λ t. x ∷ t) (restored_laid xs p bs (omega (arith, h))) ∙ ap (λ n. x ∷ (take p xs ++ bs) ++ drop n (x ∷ xs)) e
restored_laid (x ∷ xs) zero [] h = ap (λ t. x ∷ t) (restored_none xs)
restored_laid (x ∷ xs) zero (b ∷ bs) h =
    let e : suc (0 + length bs) ≡ 0 + length (b ∷ bs) = omega arith in
    ap (λ t. b ∷ t) (restored_laid xs zero bs (omega (arith, h))) ∙ ap (λ n. b ∷ bs ++ drop n (x ∷ xs)) e

pub restored_kept : (os : List Old) (a : List ℕ) → AreWithin (length a) os → put_back os a ≡ restored (kept_of a os) a
restored_kept [] a w = sym (restored_none a)
restored_kept (o ∷ os) a w =
    let l = laid (nothing a) o.place o.bytes in
    let e = length-put_back os a w.1 in
    sym (ap (λ t. restored t a) (merged_kept l a os (length-laid (nothing a) o.place o.bytes ∙ length-nothing a))
    ∙ (restored_merged l (kept_of a os) a
    ∙ (ap (restored l) (sym (restored_kept os a w.1))
    ∙ (ap (λ t. restored (laid t o.place o.bytes) (put_back os a)) (nothing_same a (put_back os a) (sym e))
    ∙ restored_laid (put_back os a) o.place o.bytes (omega (arith, w.0, e))))))
