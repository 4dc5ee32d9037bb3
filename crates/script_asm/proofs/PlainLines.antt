-- The lines of plain texts.
use Rattle.std.proofs.Common.{◌≡◌, ℕ, ◌-◌, Bool, true, false, cond, not, ◌||◌, eqb, List, [], ◌∷◌, length, take, refl, sym, ap, ◌∙◌, arith, slice_index}
use Rattle.script_asm.proofs.Common.{and_parts, is_allowed, is_feed, is_plain, is_plain_or_feed, is_semicolon, is_shown, lines, lines_of_parts, list_all, onto_first, or_right, slice_split, strip_carriage_return, take_all, without_comment}
use Rattle.std.{proofs.lemmas.List.Sums.AllPass-from_list_all, proofs.lemmas.List.Sums.list_all-from_AllPass, proofs.lemmas.List.Elements.All-take}
use Rattle.script_fields.{proofs.SpelledFields.none_before, proofs.SpelledNumbers.list_all-weaker}

-- ## One line

plain_allowed : (b : ℕ) → is_plain b ≡ true → is_allowed b ≡ true
plain_allowed b h = or_right (eqb b 9) (is_shown b) (and_parts (is_shown b) (not (is_semicolon b)) h).0

pub all_allowed : (xs : List ℕ) → list_all is_plain xs ≡ true → list_all is_allowed xs ≡ true
all_allowed xs h = list_all-weaker is_plain is_allowed plain_allowed xs h

no_semicolon : (b : ℕ) → is_plain b ≡ true → not (is_semicolon b) ≡ true
no_semicolon b h = (and_parts (is_shown b) (not (is_semicolon b)) h).1

pub no_comment : (xs : List ℕ) → list_all is_plain xs ≡ true → without_comment xs ≡ xs
unfolding without_comment
no_comment xs h = take_all _ xs (omega (arith, none_before is_semicolon xs (list_all-weaker is_plain (λ (b : ℕ). not (is_semicolon b)) no_semicolon xs h)))

-- ## All lines

abbrev all_plain : List (List ℕ) → Bool
all_plain parts = list_all (list_all is_plain) parts

plain_front : (n : ℕ) (xs : List ℕ) → list_all is_plain xs ≡ true → list_all is_plain (take n xs) ≡ true
plain_front n xs h = list_all-from_AllPass is_plain (take n xs) (All-take (λ (b : ℕ). is_plain b ≡ true) n xs (AllPass-from_list_all is_plain xs h))

either_plain : (b : Bool) (xs ys : List ℕ) → list_all is_plain xs ≡ true → list_all is_plain ys ≡ true → list_all is_plain (cond b xs ys) ≡ true
either_plain true xs ys h k = h
either_plain false xs ys h k = k

last_plain : (b : Bool) (x : List ℕ) → all_plain (x ∷ []) ≡ true → all_plain (cond b [] (x ∷ [])) ≡ true
last_plain true x h = refl
last_plain false x h = h

plain_lines : (parts : List (List ℕ)) → all_plain parts ≡ true → all_plain (lines_of_parts parts) ≡ true
plain_lines [] h = refl
plain_lines (x ∷ []) h = last_plain (eqb (length x) 0) x h
plain_lines (x ∷ y ∷ more) h =
    let parts = and_parts (list_all is_plain x) (all_plain (y ∷ more)) h in
    let first : list_all is_plain (strip_carriage_return x) ≡ true = either_plain (eqb (slice_index x (length x - 1)) 13) (take (length x - 1) x) x (plain_front (length x - 1) x parts.0) parts.0 in
    rw (first, plain_lines (y ∷ more) parts.1) refl

plain_onto : (b : ℕ) (parts : List (List ℕ)) → is_plain b ≡ true → all_plain parts ≡ true → all_plain (onto_first b parts) ≡ true
plain_onto b [] e h = rw e refl
plain_onto b (x ∷ more) e h =
    let parts = and_parts (list_all is_plain x) (all_plain more) h in
    rw (e, parts.0, parts.1) refl

plain_next : (feed : Bool) (b : ℕ) (parts : List (List ℕ)) → (feed || is_plain b) ≡ true → all_plain parts ≡ true → all_plain (cond feed ([] ∷ parts) (onto_first b parts)) ≡ true
plain_next true b parts e h = h
plain_next false b parts e h = plain_onto b parts e h

plain_parts : (bs : List ℕ) → list_all is_plain_or_feed bs ≡ true → all_plain (slice_split is_feed bs) ≡ true
plain_parts [] h = refl
plain_parts (b ∷ bs) h =
    let parts = and_parts (is_plain_or_feed b) (list_all is_plain_or_feed bs) h in
    plain_next (is_feed b) b (slice_split is_feed bs) parts.0 (plain_parts bs parts.1)

pub each_line : (text : List ℕ) (plain : Bool) → plain ≡ list_all is_plain_or_feed text → plain ≡ true → all_plain (lines text) ≡ true
each_line text plain e h = plain_lines (slice_split is_feed text) (plain_parts text (sym e ∙ h))

-- the first one, and those after it
pub line_on : (text after line : List ℕ) → lines text ≡ line ∷ lines after → all_plain (lines text) ≡ true → (list_all is_plain line ≡ true) × (all_plain (lines after) ≡ true)
line_on text after line e h = and_parts (list_all is_plain line) (all_plain (lines after)) (sym (ap (list_all (list_all is_plain)) e) ∙ h)
