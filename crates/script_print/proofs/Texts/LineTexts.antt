-- Lines that are put one after the other.
use Rattle.std.proofs.Common.{◌≡◌, ℕ, ◌+◌, ◌<◌, ◌≤◌, List, [], ◌∷◌, ◌++◌, length, map, take, get_or, Some, refl, sym, ap, ◌∙◌, arith, append_assoc, append-nil, slice_get}
use Rattle.script_print.proofs.Common.{Listing, Part, ended, field_text, flat_map, flat_map-append, joined, lines_text, map-append, part_lines, printed, program_lines, take_all, take_more}
use Rattle.std.{proofs.lemmas.Grind.common_steps, proofs.lemmas.Option.slice_get_within, proofs.lemmas.Option.get_or_from_slice_get}
use Rattle.script_print.specs.declared.field.Field.{Field}

-- ## One line

joined_more : (word : List ℕ) (fs : List (List ℕ)) (f : List ℕ) → joined (word ∷ (fs ++ f ∷ [])) ≡ joined (word ∷ fs) ++ 32 ∷ f
joined_more word [] f = refl
joined_more word (g ∷ gs) f = ap (λ (l : List ℕ). word ++ 32 ∷ l) (joined_more g gs f) ∙ sym (append_assoc word (32 ∷ joined (g ∷ gs)) (32 ∷ f))

map_more : {A B : Type 0} (f : A → B) (xs : List A) (i : ℕ) (d : A) → i < length xs → map f (take (i + 1) xs) ≡ map f (take i xs) ++ f (get_or xs i d) ∷ []
map_more f xs i d h = grind (arith, common_steps)

fields_more : (word : List ℕ) (fs : List Field) (i : ℕ) (d : Field) → i < length fs
    → joined (word ∷ map field_text (take (i + 1) fs)) ≡ joined (word ∷ map field_text (take i fs)) ++ 32 ∷ field_text (get_or fs i d)
fields_more word fs i d h = ap (λ (l : List (List ℕ)). joined (word ∷ l)) (map_more field_text fs i d h) ∙ joined_more word (map field_text (take i fs)) (field_text (get_or fs i d))

-- one more field, with the space before it
pub field_put : (old word : List ℕ) (fs : List Field) (i : ℕ) (d : Field) (text spaced new : List ℕ) → i < length fs → text ≡ old ++ joined (word ∷ map field_text (take i fs))
    → spaced ≡ text ++ 32 ∷ [] → new ≡ spaced ++ field_text (get_or fs i d) → new ≡ old ++ joined (word ∷ map field_text (take (i + 1) fs))
field_put old word fs i d text spaced new h so_far space field =
    let line = joined (word ∷ map field_text (take i fs)) in
    let put = field_text (get_or fs i d) in
    field ∙ ap (λ (t : List ℕ). t ++ put) (space ∙ ap (λ (t : List ℕ). t ++ 32 ∷ []) so_far)
    ∙ simp append_assoc (ap (λ (t : List ℕ). old ++ t) (sym (fields_more word fs i d h)))

-- ## Several lines

-- the line feed after all its fields
pub line_put : (old word : List ℕ) (fs : List Field) (i : ℕ) (text new : List ℕ) → length fs ≤ i → text ≡ old ++ joined (word ∷ map field_text (take i fs)) → new ≡ text ++ 10 ∷ []
    → new ≡ old ++ lines_text ((word ∷ map field_text fs) ∷ [])
unfolding lines_text
line_put old word fs i text new h so_far feed =
    let line : text ≡ old ++ joined (word ∷ map field_text fs) = so_far ∙ ap (λ (l : List Field). old ++ joined (word ∷ map field_text l)) (take_all i fs h) in
    feed ∙ ap (λ (t : List ℕ). t ++ 10 ∷ []) line ∙ append_assoc old (joined (word ∷ map field_text fs)) (10 ∷ [])

ended_append : (ls more : List (List ℕ)) → ended (ls ++ more) ≡ ended ls ++ ended more
ended_append [] more = refl
ended_append (l ∷ ls) more = ap (λ (t : List ℕ). l ++ 10 ∷ t) (ended_append ls more) ∙ sym (append_assoc l (10 ∷ ended ls) (ended more))

lines_append : (ls more : List (List (List ℕ))) → lines_text (ls ++ more) ≡ lines_text ls ++ lines_text more
unfolding lines_text
lines_append ls more = ap ended (map-append joined ls more) ∙ ended_append (map joined ls) (map joined more)

-- no line more
pub none_put : (text : List ℕ) → text ≡ text ++ lines_text []
unfolding lines_text
none_put text = sym (append-nil text)

-- more lines
pub lines_put : (old : List ℕ) (ls more : List (List (List ℕ))) (text new : List ℕ) → text ≡ old ++ lines_text ls → new ≡ text ++ lines_text more → new ≡ old ++ lines_text (ls ++ more)
lines_put old ls more text new so_far put =
    put ∙ ap (λ (t : List ℕ). t ++ lines_text more) so_far ∙ append_assoc old (lines_text ls) (lines_text more) ∙ ap (λ (t : List ℕ). old ++ t) (sym (lines_append ls more))

-- one more of those that have a line each
pub each_put : {A : Type 0} (f : A → List (List ℕ)) (old : List ℕ) (xs : List A) (i : ℕ) (d : A) (text new : List ℕ) → i < length xs → text ≡ old ++ lines_text (map f (take i xs))
    → new ≡ text ++ lines_text (f (get_or xs i d) ∷ []) → new ≡ old ++ lines_text (map f (take (i + 1) xs))
each_put f old xs i d text new h so_far put =
    lines_put old (map f (take i xs)) (f (get_or xs i d) ∷ []) text new so_far put ∙ ap (λ (ls : List (List (List ℕ))). old ++ lines_text ls) (sym (map_more f xs i d h))

-- one more section
pub part_put : (old : List ℕ) (ps : List Part) (i : ℕ) (p : Part) (text new : List ℕ) → slice_get ps i ≡ Some p → text ≡ old ++ lines_text (flat_map part_lines (take i ps))
    → new ≡ text ++ lines_text (part_lines p) → new ≡ old ++ lines_text (flat_map part_lines (take (i + 1) ps))
part_put old ps i p text new e so_far put =
    let parts : take (i + 1) ps ≡ take i ps ++ p ∷ [] = take_more ps i p (slice_get_within ps i p e) ∙ ap (λ (q : Part). take i ps ++ q ∷ []) (get_or_from_slice_get ps i p p e) in
    let lines : flat_map part_lines (take (i + 1) ps) ≡ flat_map part_lines (take i ps) ++ part_lines p =
    ap (flat_map part_lines) parts ∙ flat_map-append part_lines (take i ps) (p ∷ []) ∙ ap (λ (ls : List (List (List ℕ))). flat_map part_lines (take i ps) ++ ls) (append-nil (part_lines p)) in
    lines_put old (flat_map part_lines (take i ps)) (part_lines p) text new so_far put ∙ ap (λ (ls : List (List (List ℕ))). old ++ lines_text ls) (sym lines)

-- ## The whole text

pub printed_lines : (p : Listing) → printed p ≡ lines_text (program_lines p)
unfolding printed lines_text
printed_lines p = refl
