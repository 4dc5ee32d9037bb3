-- The lines of sections say the sections.
use Rattle.std.proofs.Common.{◌≡◌, ℕ, ◌+◌, ◌<◌, ◌≤◌, true, List, [], ◌∷◌, ◌++◌, length, map, Ok, refl, sym, ap, ◌∙◌, arith, append_assoc, inl, inr, codes, is_some}
use Rattle.script_print.proofs.Common.{AllByRecursion, Beginning, MAX_ACTORS, MAX_INSTRUCTIONS, Part, Sections, State, begun, cases_eq, count_of, eq-eqb, flat_map, flat_map-cons, instruction_fields, instruction_total, le-ltb, lt-ltb, ne_eqb, number_again, number_fields, obeyed, one, part_lines, parts_of, said, sum_by, sum_by-append, sum_by-cons, thread_fields, thread_total, threaded, word_of}
use Rattle.script_print.proofs.Printable.{IsPart, threads_in, instructions_in}
use Rattle.script_print.proofs.Texts.Lines.{all_said, said_next, said_on}
use Rattle.script_print.proofs.Texts.Code.{groups_of, with_code, code_said}

-- sections, the last of which is read
abbrev sections : List Part → Part → Sections
sections ended q = record { ended = ended; count = q.count; code = q.code; left_out = 0 }

-- in these sections, with nothing open
abbrev pub with_sections : State → Sections → State
with_sections s t = record s { threads = t; levels = [] }

-- a section that has no code yet
abbrev of_count : ℕ → Part
of_count count = record { count = count; code = [] }

-- ## The line that begins a section

begun_one : (s : State) (n : ℕ) (t : Sections) → is_some s.memory ≡ true → thread_total t + 1 ≤ MAX_ACTORS
    → said (with_sections s t) n (codes ".thread" ∷ []) ≡ Ok (with_sections s (begun t 1))
unfolding word_of obeyed threaded count_of
begun_one s n t may few = rw (may, le-ltb MAX_ACTORS (thread_total t + 1) few) refl

begun_several : (s : State) (n : ℕ) (t : Sections) (count : ℕ) → is_some s.memory ≡ true → 1 ≤ count → thread_total t + count ≤ MAX_ACTORS
    → said (with_sections s t) n (number_fields (codes ".thread") count) ≡ Ok (with_sections s (begun t count))
unfolding word_of obeyed threaded count_of one
begun_several s n t count may some few = rw (may, number_again count (omega arith), ne_eqb count 0 (λ e. omega arith), le-ltb MAX_ACTORS (thread_total t + count) few) refl

begun_said : (s : State) (n : ℕ) (t : Sections) (count : ℕ) → is_some s.memory ≡ true → 1 ≤ count → thread_total t + count ≤ MAX_ACTORS
    → said (with_sections s t) n (thread_fields count) ≡ Ok (with_sections s (begun t count))
begun_said s n t count may some few =
    elim (cases_eq count 1) [
      | inl one ↦ rw (eq-eqb count 1 one) (begun_one s n t may (omega arith) ∙ ap (λ (k : ℕ). Ok (with_sections s (begun t k))) (sym one))
      | inr several ↦ rw (ne_eqb count 1 several) (begun_several s n t count may some few)
    ]

-- ## One section

none_left : (levels : List Beginning) → groups_of levels ≡ [] → levels ≡ []
none_left [] e = refl
none_left (b ∷ levels) e = absurd cc

part_said : (s : State) (n : ℕ) (t : Sections) (ended : List Part) (q : Part) → is_some s.memory ≡ true → begun t q.count ≡ sections ended (of_count q.count)
    → thread_total t + q.count ≤ MAX_ACTORS → instructions_in ended + length q.code ≤ MAX_INSTRUCTIONS → IsPart q
    → all_said (with_sections s t) n (part_lines q) ≡ Ok (with_sections s (sections ended q))
unfolding instruction_total
part_said s n t ended q may begins few short h =
    let u = with_sections s (sections ended (of_count q.count)) in
    let code = code_said q.code u (n + 1) [] (lt-ltb 0 q.count h.0) (omega arith) refl h.1.1 h.1.0 in
    said_next (thread_fields q.count) (map instruction_fields q.code) (with_sections s t) u n (begun_said s n t q.count may h.0 few ∙ ap (λ (k : Sections). Ok (with_sections s k)) begins)
    ∙ code.2 ∙ ap (λ (levels : List Beginning). Ok (with_code u q.code levels)) (none_left code.0 code.1)

-- ## All sections

-- the lines leave these sections, and one of them is read
abbrev pub SaysParts : State → ℕ → Sections → List Part → List Part → Type 0
SaysParts s n before more all = (t : Sections) × (0 < t.count) × (parts_of t ≡ all) × (all_said (with_sections s before) n (flat_map part_lines more) ≡ Ok (with_sections s t))

sum_split : (f : Part → ℕ) (ended : List Part) (q : Part) (more : List Part) → sum_by f (ended ++ q ∷ more) ≡ sum_by f ended + (f q + sum_by f more)
sum_split f ended q more = sum_by-append f ended (q ∷ more) ∙ ap (λ (k : ℕ). sum_by f ended + k) (sum_by-cons f q more)

-- a section, and those after it
part_then : (s : State) (n : ℕ) (before : Sections) (ended : List Part) (q : Part) (more all : List Part) → is_some s.memory ≡ true → begun before q.count ≡ sections ended (of_count q.count)
    → thread_total before + q.count ≤ MAX_ACTORS → instructions_in ended + length q.code ≤ MAX_INSTRUCTIONS → IsPart q
    → SaysParts s (n + length (part_lines q)) (sections ended q) more all → SaysParts s n before (q ∷ more) all
part_then s n before ended q more all may begins few short h rest =
    let first = part_said s n before ended q may begins few short h in (
      rest.0,
      rest.1,
      rest.2,
      ap (λ (ls : List (List (List ℕ))). all_said (with_sections s before) n ls) (flat_map-cons part_lines q more)
          ∙ said_on (part_lines q) (flat_map part_lines more) (with_sections s before) (with_sections s (sections ended q)) n first ∙ rest.3,
    )

later : (more : List Part) (s : State) (n : ℕ) (ended : List Part) (q : Part) → is_some s.memory ≡ true → 0 < q.count → threads_in (ended ++ q ∷ more) ≤ MAX_ACTORS → instructions_in (ended ++ q ∷ more) ≤ MAX_INSTRUCTIONS
    → AllByRecursion IsPart more → SaysParts s n (sections ended q) more (ended ++ q ∷ more)
unfolding thread_total
later [] s n ended q may some few short h = (sections ended q, some, refl, refl)
later (r ∷ more) s n ended q may some few short h =
    let so_far = ended ++ q ∷ [] in
    let all : so_far ++ r ∷ more ≡ ended ++ q ∷ r ∷ more = append_assoc ended (q ∷ []) (r ∷ more) in
    let same : threads_in (so_far ++ r ∷ more) ≡ threads_in (ended ++ q ∷ r ∷ more) = ap threads_in all in
    let alike : instructions_in (so_far ++ r ∷ more) ≡ instructions_in (ended ++ q ∷ r ∷ more) = ap instructions_in all in
    let rest = later more s (n + length (part_lines r)) so_far r may h.0.0 (omega arith) (omega arith) h.1 in
    let begins : begun (sections ended q) r.count ≡ sections so_far (of_count r.count) = rw (lt-ltb 0 q.count some) refl in
    part_then s n (sections ended q) so_far r more (ended ++ q ∷ r ∷ more) may begins
    (omega (arith, sum_split (λ p. p.count) ended q (r ∷ more), sum_by-cons (λ (p : Part). p.count) r more))
    (omega (arith, sum_split (λ p. length p.code) so_far r more)) h.0
    (rest.0, rest.1, rest.2 ∙ all, rest.3)

-- before the first section
abbrev pub no_sections : Sections
no_sections = record { ended = []; count = 0; code = []; left_out = 0 }

pub parts_said : (parts : List Part) (s : State) (n : ℕ) → is_some s.memory ≡ true → 0 < length parts → threads_in parts ≤ MAX_ACTORS → instructions_in parts ≤ MAX_INSTRUCTIONS
    → AllByRecursion IsPart parts → SaysParts s n no_sections parts parts
unfolding thread_total
parts_said [] s n may some few short h = absurd (omega arith)
parts_said (q ∷ more) s n may some few short h =
    part_then s n no_sections [] q more (q ∷ more) may refl (omega (arith, sum_split (λ p. p.count) [] q more)) (omega (arith, sum_split (λ p. length p.code) [] q more)) h.0
    (later more s (n + length (part_lines q)) [] q may h.0.0 few short h.1)
