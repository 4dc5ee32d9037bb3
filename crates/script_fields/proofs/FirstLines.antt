-- The first line of a text, and the first field of a line.
use Rattle.std.proofs.Common.{◌≡◌, ℕ, ◌+◌, ◌<◌, ◌≤◌, Bool, true, false, cond, not, ltb, List, [], ◌∷◌, length, take, drop, filter, Some, None, refl, sym, ap, ◌∙◌, arith, position, get_or, inl, inr, ◌⊎◌, subst}
use Rattle.script_fields.proofs.Common.{before_first, cases_Bool, common_steps, fields, is_blank, is_feed, is_ink, is_semicolon, is_some_field, length-drop, length-slice_split, length-take, lines, lines_of_parts, lt-ltb, ltb-false, ltb-true, ne_eqb, onto_first, position_or_len, slice_split, slice_split-cons_no, slice_split-cons_yes, slice_split_first, strip_carriage_return, take_all}

drop-one-more : (b : ℕ) (bs : List ℕ) (n : ℕ) → drop (1 + n) (b ∷ bs) ≡ drop n bs
drop-one-more b bs n = grind (arith, common_steps)

pub chosen : {A : Type 0} (b : Bool) (x y z : A) → cond b x y ≡ z → ((b ≡ true) × (x ≡ z)) ⊎ ((b ≡ false) × (y ≡ z))
chosen true x y z e = inl (refl, e)
chosen false x y z e = inr (refl, e)

pub at_is : (p : ℕ → Bool) (xs : List ℕ) (i : ℕ) → Some i ≡ position p xs → (position_or_len p xs ≡ i) × (position_or_len p xs < length xs)
at_is p xs i e =
    let c = chosen (ltb (position_or_len p xs) (length xs)) (Some (position_or_len p xs)) None (Some i) (sym e) in
    elim c [ inl h ↦ (cc, ltb-true _ _ h.0) | inr h ↦ absurd cc ]

pub at_none : (p : ℕ → Bool) (xs : List ℕ) → None ≡ position p xs → length xs ≤ position_or_len p xs
at_none p xs e =
    let c = chosen (ltb (position_or_len p xs) (length xs)) (Some (position_or_len p xs)) None None (sym e) in
    elim c [ inl h ↦ absurd cc | inr h ↦ ltb-false _ _ h.0 ]

pub first_place : (p : ℕ → Bool) (x : ℕ) (xs : List ℕ) → position_or_len p (x ∷ xs) ≡ cond (p x) 0 (1 + position_or_len p xs)
first_place p x xs = elim (p x) as (λ b. cond (not b) (1 + position_or_len p xs) 0 ≡ cond b 0 (1 + position_or_len p xs)) [ true ↦ refl | false ↦ refl ]

one_part : (p : ℕ → Bool) (xs : List ℕ) → length xs ≤ position_or_len p xs → slice_split p xs ≡ xs ∷ []
one_part p [] h = refl
one_part p (x ∷ xs) h =
    elim (chosen (p x) 0 (1 + position_or_len p xs) (position_or_len p (x ∷ xs)) (sym (first_place p x xs))) [
      | inl w ↦ absurd (omega (arith, w.1))
      | inr w ↦ slice_split-cons_no p x xs w.0 ∙ ap (onto_first x) (one_part p xs (omega (arith, w.1)))
    ]

pub before_at : (xs : List ℕ) (i : ℕ) → Some i ≡ position is_semicolon xs → before_first is_semicolon xs ≡ take i xs
before_at xs i e = let h = at_is is_semicolon xs i e in rw h.0 refl

pub before_none : (xs : List ℕ) → None ≡ position is_semicolon xs → before_first is_semicolon xs ≡ xs
before_none xs e = take_all _ xs (at_none is_semicolon xs e)

-- the first of the parts that the passing elements divide a list into, and those after it
pub parts_first : (p : ℕ → Bool) (xs : List ℕ) (i : ℕ) → Some i ≡ position p xs → slice_split p xs ≡ take i xs ∷ slice_split p (drop (i + 1) xs)
parts_first p xs i e =
    let h = at_is p xs i e in
    subst (λ (n : ℕ). slice_split p xs ≡ take n xs ∷ slice_split p (drop (n + 1) xs)) h.0 (slice_split_first p xs 0 h.1)

pub parts_last : (p : ℕ → Bool) (xs : List ℕ) → None ≡ position p xs → slice_split p xs ≡ xs ∷ []
parts_last p xs e = one_part p xs (at_none p xs e)

pub parts_nonempty : (p : ℕ → Bool) (xs : List ℕ) → 0 < length (slice_split p xs)
parts_nonempty p xs = omega (arith, length-slice_split p xs)

pub lines_of_parts-cons : (x : List ℕ) (parts : List (List ℕ)) → 0 < length parts → lines_of_parts (x ∷ parts) ≡ strip_carriage_return x ∷ lines_of_parts parts
lines_of_parts-cons x [] h = absurd (omega arith)
lines_of_parts-cons x (y ∷ more) h = refl

pub line_first : (text : List ℕ) (i : ℕ) → Some i ≡ position is_feed text → lines text ≡ strip_carriage_return (take i text) ∷ lines (drop (i + 1) text)
line_first text i e = ap lines_of_parts (parts_first is_feed text i e) ∙ lines_of_parts-cons (take i text) (slice_split is_feed (drop (i + 1) text)) (parts_nonempty is_feed (drop (i + 1) text))

pub line_last : (text : List ℕ) → None ≡ position is_feed text → 0 < length text → lines text ≡ text ∷ []
line_last [] e h = absurd (omega arith)
line_last (x ∷ xs) e h = ap lines_of_parts (parts_last is_feed (x ∷ xs) e) ∙ ap (λ (t : Bool). cond t [] ((x ∷ xs) ∷ [])) (ne_eqb (length (x ∷ xs)) 0 (λ q. omega arith))

pub filter-yes : (x : List ℕ) (xs : List (List ℕ)) → 0 < length x → filter is_some_field (x ∷ xs) ≡ x ∷ filter is_some_field xs
filter-yes [] xs h = absurd (omega arith)
filter-yes (b ∷ x) xs h = ap (λ (t : Bool). cond t ((b ∷ x) ∷ filter is_some_field xs) (filter is_some_field xs)) (lt-ltb 0 (length (b ∷ x)) h)

-- a field that does not begin with a blank is not empty
blank_first : (rest : List ℕ) (i : ℕ) → Some i ≡ position is_blank rest → is_blank (get_or rest 0 0) ≡ false → 0 < i
blank_first [] i e h = absurd cc
blank_first (b ∷ bs) i e h =
    let at = at_is is_blank (b ∷ bs) i e in
    let first = first_place is_blank b bs in
    let one : position_or_len is_blank (b ∷ bs) ≡ 1 + position_or_len is_blank bs = first ∙ ap (λ (t : Bool). cond t 0 (1 + position_or_len is_blank bs)) h in
    omega (arith, one, at.0)

-- the blank in front is left out, and what is no blank stays
past_blank : (b : ℕ) (bs : List ℕ) → is_blank b ≡ true → drop (position_or_len is_ink (b ∷ bs)) (b ∷ bs) ≡ drop (position_or_len is_ink bs) bs
past_blank b bs is = rw (first_place is_ink b bs, is) (drop-one-more b bs (position_or_len is_ink bs))

at_ink : (b : ℕ) (bs : List ℕ) → is_blank b ≡ false → drop (position_or_len is_ink (b ∷ bs)) (b ∷ bs) ≡ b ∷ bs
at_ink b bs isnt = rw (first_place is_ink b bs, isnt) refl

-- blanks in front are no part of a field
skip_blanks : (xs : List ℕ) → fields (drop (position_or_len is_ink xs) xs) ≡ fields xs
unfolding fields
skip_blanks [] = refl
skip_blanks (b ∷ bs) =
    elim (cases_Bool (is_blank b)) [
      | inl is ↦ ap fields (past_blank b bs is) ∙ skip_blanks bs ∙ sym (ap (filter is_some_field) (slice_split-cons_yes is_blank b bs is))
      | inr isnt ↦ ap fields (at_ink b bs isnt)
    ]

ink_there : (xs : List ℕ) → position_or_len is_ink xs < length xs → is_blank (get_or (drop (position_or_len is_ink xs) xs) 0 0) ≡ false
ink_there [] h = absurd (omega arith)
ink_there (b ∷ bs) h =
    elim (cases_Bool (is_blank b)) [
      | inl is ↦
          let one : position_or_len is_ink (b ∷ bs) ≡ 1 + position_or_len is_ink bs = first_place is_ink b bs ∙ ap (λ (t : Bool). cond (not t) 0 (1 + position_or_len is_ink bs)) is in
          rw (past_blank b bs is) (ink_there bs (omega (arith, one)))
      | inr isnt ↦ rw (at_ink b bs isnt) isnt
    ]

pub field_none : (line : List ℕ) → None ≡ position is_ink line → fields line ≡ []
unfolding fields
field_none line e =
    let none : drop (position_or_len is_ink line) line ≡ [] = grind (arith, common_steps, at_none is_ink line e) in
    sym (skip_blanks line) ∙ ap (λ (l : List ℕ). filter is_some_field (slice_split is_blank l)) none

cut_first : (rest : List ℕ) (i : ℕ) → Some i ≡ position is_blank rest → 0 < i → fields rest ≡ take i rest ∷ fields (drop (i + 1) rest)
unfolding fields
cut_first rest i e h =
    let at = at_is is_blank rest i e in
    ap (filter is_some_field) (parts_first is_blank rest i e) ∙ filter-yes (take i rest) (slice_split is_blank (drop (i + 1) rest)) (omega (arith, length-take i rest, at.0, at.1))

cut_last : (rest : List ℕ) → None ≡ position is_blank rest → 0 < length rest → fields rest ≡ rest ∷ []
unfolding fields
cut_last rest e h = ap (filter is_some_field) (parts_last is_blank rest e) ∙ filter-yes rest [] h

pub field_first : (line : List ℕ) (s i : ℕ) → Some s ≡ position is_ink line → Some i ≡ position is_blank (drop s line) → fields line ≡ take i (drop s line) ∷ fields (drop (i + 1) (drop s line))
field_first line s i e f =
    let at = at_is is_ink line s e in
    let ink : is_blank (get_or (drop s line) 0 0) ≡ false = subst (λ (n : ℕ). is_blank (get_or (drop n line) 0 0) ≡ false) at.0 (ink_there line at.1) in
    let same : fields (drop s line) ≡ fields line = subst (λ (n : ℕ). fields (drop n line) ≡ fields line) at.0 (skip_blanks line) in
    sym same ∙ cut_first (drop s line) i f (blank_first (drop s line) i f ink)

pub field_last : (line : List ℕ) (s : ℕ) → Some s ≡ position is_ink line → None ≡ position is_blank (drop s line) → fields line ≡ drop s line ∷ []
field_last line s e f =
    let at = at_is is_ink line s e in
    let same : fields (drop s line) ≡ fields line = subst (λ (n : ℕ). fields (drop n line) ≡ fields line) at.0 (skip_blanks line) in
    sym same ∙ cut_last (drop s line) f (omega (arith, length-drop s line, at.0, at.1))
