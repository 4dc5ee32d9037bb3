-- Fields that are joined, and lines that are ended, are read as they were.
use Rattle.std.proofs.Common.{◌≡◌, ◌≢◌, ℕ, ◌+◌, ◌-◌, ◌≤◌, Bool, true, false, cond, not, eqb, ◌||◌, List, [], ◌∷◌, ◌++◌, length, take, get_or, filter, All, refl, ap, ◌∙◌, arith, inl, inr, zero, suc, drop}
use Rattle.script_fields.proofs.Common.{All-get_or, All-weaker, AllByRecursion, AllPass-from_list_all, IsField, IsLine, and_parts, ended, eqb-true, fields, is_allowed, is_blank, is_feed, is_field_byte, is_semicolon, is_some_field, joined, le-leb, leb-true, lines, lines_of_parts, list_all, list_all-append, ne_eqb, not-true, not_from_false, or_cases, or_left, or_right, position_or_len, slice_split, slice_split_at, slice_split_none, take-length, without_comment}
use Rattle.script_fields.proofs.FirstLines.{filter-yes, first_place, lines_of_parts-cons, parts_nonempty}
use Rattle.script_fields.proofs.SpelledNumbers.{list_all-weaker}

-- ## Lists that are put together

pub all_append : {X : Type 0} (P : X → Type 0) (xs ys : List X) → AllByRecursion P xs → AllByRecursion P ys → AllByRecursion P (xs ++ ys)
all_append P [] ys h k = k
all_append P (x ∷ xs) ys h k = (h.0, all_append P xs ys h.1 k)

pub all_parts : {X : Type 0} (P : X → Type 0) (n : ℕ) (xs : List X) → AllByRecursion P xs → AllByRecursion P (take n xs) × AllByRecursion P (drop n xs)
all_parts P zero xs h = (tt, h)
all_parts P (suc n) [] h = (tt, tt)
all_parts P (suc n) (x ∷ xs) h = let more = all_parts P n xs h.1 in ((h.0, more.0), more.1)

-- ## Fields

field_bounds : (b : ℕ) → is_field_byte b ≡ true → (33 ≤ b) × (b ≤ 126) × (b ≢ 59)
field_bounds b h =
    let one = and_parts _ _ h in
    let two = and_parts _ _ one.0 in
    (leb-true 33 b two.0, leb-true b 126 two.1, λ e. absurd cc)

unblank : (b : ℕ) → is_field_byte b ≡ true → is_blank b ≡ false
unblank b h =
    let low = (field_bounds b h).0 in
    rw (ne_eqb b 32 (λ e. omega arith), ne_eqb b 9 (λ e. omega arith)) refl

unblanks : (f : List ℕ) → IsField f → All (λ x. is_blank x ≡ false) f
unblanks f h = All-weaker (λ (b : ℕ). is_field_byte b ≡ true) (λ (b : ℕ). is_blank b ≡ false) unblank f (AllPass-from_list_all is_field_byte f h.1)

-- a field with a space after it is the first field
pub field_again : (f rest : List ℕ) → IsField f → fields (f ++ 32 ∷ rest) ≡ f ∷ fields rest
unfolding fields
field_again f rest h = ap (filter is_some_field) (slice_split_at is_blank f 32 rest (unblanks f h) refl) ∙ filter-yes f (slice_split is_blank rest) h.0

pub field_again_last : (f : List ℕ) → IsField f → fields f ≡ f ∷ []
unfolding fields
field_again_last f h = ap (filter is_some_field) (slice_split_none is_blank f (unblanks f h)) ∙ filter-yes f [] h.0

fields_nil : fields [] ≡ []
unfolding fields
fields_nil = refl

-- fields with one space between each two are the fields of their line
pub fields_again : (fs : List (List ℕ)) → AllByRecursion IsField fs → fields (joined fs) ≡ fs
fields_again [] h = fields_nil
fields_again (f ∷ []) h = field_again_last f h.0
fields_again (f ∷ g ∷ gs) h = field_again f (joined (g ∷ gs)) h.0 ∙ ap (λ (l : List (List ℕ)). f ∷ l) (fields_again (g ∷ gs) h.1)

-- ## Lines

-- a line with its line feed is the first line
pub line_again : (l rest : List ℕ) → IsLine l → lines (l ++ 10 ∷ rest) ≡ l ∷ lines rest
line_again l rest h =
    ap lines_of_parts (slice_split_at is_feed l 10 rest h.0 refl) ∙ lines_of_parts-cons l (slice_split is_feed rest) (parts_nonempty is_feed rest)
    ∙ ap (λ (t : Bool). cond t (take (length l - 1) l) l ∷ lines rest) (ne_eqb _ 13 h.1)

-- lines that are ended are the lines of their text
pub lines_again : (ls : List (List ℕ)) → AllByRecursion IsLine ls → lines (ended ls) ≡ ls
lines_again [] h = refl
lines_again (l ∷ ls) h = line_again l (ended ls) h.0 ∙ ap (λ (more : List (List ℕ)). l ∷ more) (lines_again ls h.1)

-- ## Lines of fields

-- what fields and the spaces between them hold
abbrev is_joined_byte : ℕ → Bool
is_joined_byte b = is_field_byte b || eqb b 32

field_is_joined : (f : List ℕ) → IsField f → list_all is_joined_byte f ≡ true
field_is_joined f h = list_all-weaker is_field_byte is_joined_byte (λ (b : ℕ) (t : is_field_byte b ≡ true). or_left _ (eqb b 32) t) f h.1

joined_bytes : (fs : List (List ℕ)) → AllByRecursion IsField fs → list_all is_joined_byte (joined fs) ≡ true
joined_bytes [] h = refl
joined_bytes (f ∷ []) h = field_is_joined f h.0
joined_bytes (f ∷ g ∷ gs) h = rw (list_all-append is_joined_byte f (32 ∷ joined (g ∷ gs)), field_is_joined f h.0) (joined_bytes (g ∷ gs) h.1)

joined_bounds : (b : ℕ) → is_joined_byte b ≡ true → (32 ≤ b) × (b ≤ 126) × (b ≢ 59)
joined_bounds b h =
    elim (or_cases (is_field_byte b) (eqb b 32) h) [
      | inl field ↦ let bounds = field_bounds b field in (omega arith, bounds.1, bounds.2)
      | inr space ↦ let is = eqb-true b 32 space in (omega arith, omega arith, λ e. omega arith)
    ]

joined_allowed : (b : ℕ) → is_joined_byte b ≡ true → is_allowed b ≡ true
joined_allowed b h =
    let bounds = joined_bounds b h in
    or_right (eqb b 9) _ (rw (le-leb 32 b bounds.0, le-leb b 126 bounds.1) refl)

-- a line of fields holds only what a line may hold
pub allowed_again : (fs : List (List ℕ)) → AllByRecursion IsField fs → list_all is_allowed (joined fs) ≡ true
allowed_again fs h = list_all-weaker is_joined_byte is_allowed joined_allowed (joined fs) (joined_bytes fs h)

pub none_before : (p : ℕ → Bool) (xs : List ℕ) → list_all (λ b. not (p b)) xs ≡ true → position_or_len p xs ≡ length xs
none_before p [] h = refl
none_before p (x ∷ xs) h =
    let parts = and_parts (not (p x)) (list_all (λ b. not (p b)) xs) h in
    first_place p x xs ∙ ap (λ (t : Bool). cond t 0 (1 + position_or_len p xs)) (not-true (p x) parts.0) ∙ omega (arith, none_before p xs parts.1)

no_semicolon : (b : ℕ) → is_joined_byte b ≡ true → not (is_semicolon b) ≡ true
no_semicolon b h = not_from_false (is_semicolon b) (ne_eqb b 59 (joined_bounds b h).2)

-- a line of fields has no comment
pub code_again : (fs : List (List ℕ)) → AllByRecursion IsField fs → without_comment (joined fs) ≡ joined fs
unfolding without_comment
code_again fs h =
    ap (λ (n : ℕ). take n (joined fs)) (none_before is_semicolon (joined fs) (list_all-weaker is_joined_byte (λ (b : ℕ). not (is_semicolon b)) no_semicolon (joined fs) (joined_bytes fs h)))
    ∙ take-length (joined fs)

not_feed : (b : ℕ) → is_joined_byte b ≡ true → is_feed b ≡ false
not_feed b h = let low = (joined_bounds b h).0 in ne_eqb b 10 (λ e. omega arith)

not_return : (b : ℕ) → is_joined_byte b ≡ true → b ≢ 13
not_return b h e = let low = (joined_bounds b h).0 in omega arith

last_byte : (l : List ℕ) → list_all is_joined_byte l ≡ true → get_or l (length l - 1) 0 ≢ 13
last_byte [] h = λ e. absurd cc
last_byte (b ∷ l) h = not_return _ (All-get_or (λ (x : ℕ). is_joined_byte x ≡ true) (b ∷ l) (length (b ∷ l) - 1) 0 (omega arith) (AllPass-from_list_all is_joined_byte (b ∷ l) h))

-- a line of fields is a line
pub joined_line : (fs : List (List ℕ)) → AllByRecursion IsField fs → IsLine (joined fs)
joined_line fs h =
    let bytes = joined_bytes fs h in
    (All-weaker (λ (b : ℕ). is_joined_byte b ≡ true) (λ (b : ℕ). is_feed b ≡ false) not_feed (joined fs) (AllPass-from_list_all is_joined_byte (joined fs) bytes), last_byte (joined fs) bytes)
