-- Writing the bytes of a text.
use Rattle.std.proofs.Common.{◌≡◌, ℕ, ◌+◌, ◌/◌, ◌%◌, ◌<◌, ◌≤◌, List, [], ◌∷◌, ◌++◌, length, take, drop, Option, Result, refl, sym, ap, ◌∙◌, arith, subst, slice_index}
use Rattle.tx_history.proofs.Common.{Appends, Appends-kept, Appends-nil, Appends-trans, IsCut, Keeps, Puts, drop-take, encode_lower, encode_with, length-append, lower_digits, take-append-add, take-append-drop, take-append-le, take-take, take_all}

take_more : (text : List ℕ) (i n : ℕ) → take (i + n) text ≡ take i text ++ take n (drop i text)
take_more text i n =
    sym (take-append-drop i (take (i + n) text)) ∙ rw (take-take i (i + n) text (omega arith), drop-take i n text) refl

pub starts : (a : Option (List ℕ)) → Appends a a []
starts a = Appends-nil a

pub grown : (a b c : Option (List ℕ)) (text : List ℕ) (i n : ℕ) → Appends a b (take i text) → Appends b c (take n (drop i text)) → Appends a c (take (i + n) text)
grown a b c text i n p q = subst (Appends a c) (sym (take_more text i n)) (Appends-trans a b c _ _ p q)

pub stays : (a b c : Option (List ℕ)) (text : List ℕ) (i : ℕ) → Appends a b (take i text) → i < length text → Keeps b c → IsCut a c text
stays a b c text i p h q = (i, h, Appends-kept a b c _ p q)

pub whole : (a b : Option (List ℕ)) (text : List ℕ) (i : ℕ) → Appends a b (take i text) → length text ≤ i → Appends a b text
whole a b text i p h = subst (Appends a b) (take_all i text h) p

encode_append : (xs ys : List ℕ) → encode_lower (xs ++ ys) ≡ encode_lower xs ++ encode_lower ys
unfolding encode_with
encode_append [] ys = refl
encode_append (x ∷ xs) ys = ap (λ (l : List ℕ). slice_index lower_digits (x / 16) ∷ slice_index lower_digits (x % 16) ∷ l) (encode_append xs ys)

pub encode_more : (bytes : List ℕ) (i n : ℕ) → encode_lower (take (i + n) bytes) ≡ encode_lower (take i bytes) ++ encode_lower (take n (drop i bytes))
encode_more bytes i n = ap encode_lower (take_more bytes i n) ∙ encode_append (take i bytes) (take n (drop i bytes))

-- a call that failed left something out
pub cut_short : (a b c : Option (List ℕ)) (x y z text : List ℕ) → Appends a b x → IsCut b c y → text ≡ x ++ (y ++ z) → IsCut a c text
cut_short a b c x y z text p q e =
    let front : take (length x + q.0) text ≡ x ++ take q.0 y = ap (take (length x + q.0)) e ∙ take-append-add x (y ++ z) q.0 ∙ ap (λ (l : List ℕ). x ++ l) (take-append-le q.0 y z (omega (arith, q.1))) in (
      length x + q.0,
      omega (arith, q.1, ap (length {A = ℕ}) e, length-append x (y ++ z), length-append y z),
      subst (Appends a c) (sym front) (Appends-trans a b c x (take q.0 y) p q.2),
    )

pub put_as : {A E : Type 0} (a b : Option (List ℕ)) (r : Result A E) (x y : List ℕ) → Puts a b r x → x ≡ y → Puts a b r y
put_as a b r x y p e = subst (Puts a b r) e p
