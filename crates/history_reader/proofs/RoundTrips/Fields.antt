-- What is spelled in a field is read of it again.
use Rattle.std.proofs.Common.{◌≡◌, ℕ, ◌*◌, ◌/◌, ◌%◌, ◌^◌, ◌<◌, ◌≤◌, ◌+◌, Bool, true, false, cond, eqb, leb, List, [], ◌∷◌, ◌++◌, length, Option, Some, Result, Ok, Err, refl, sym, ap, subst, ◌∙◌, arith, lit<, inl, inr, decimal, bytes_eq, codes}
use Rattle.history_reader.proofs.Common.{ActionKind, FaultKind, Datum, Depth, IsArenaWidth, IsBytes, IsDatum, IsMemory, MAX_ARENA, MAX_DEPTH, Outcome, Point, Props, Refusal, Verb, Width, access_names, are_words, arena_bytes, arena_text, block_props, bytes_eq-Decides, bytes_if, cases_Bool, datum, datum_of, decimal_digit, decode_of-encode_lower, decoded_is, depth, depth_from, encode_lower, entry_of-exact, eq-eqb, even_digits, is_lower_digit, kind, kind_text, le-leb, length-encode_with, lookup, lower_digits, memory_bytes, name_of, ne_eqb, near_is, number_again, number_of, or_point, outcome, outcome_name, point_verb, props_text, ranged, refusal_of, restart_bytes, same_depth, size_of, sized, verb_of, verb_text, within, within_again, ◌>>=◌}
use Rattle.itm_types.specs.declared.access.Width.TheVariants.{U1, U2, U4, U8, F}
use Rattle.itm_types.specs.declared.call.ActionKind.TheVariants as when
use Rattle.itm_types.specs.declared.call.Refusal.TheVariants as refusals
use Rattle.script_fields.specs.declared.fault.FaultKind.TheVariants as kinds
use Rattle.tx_attempts.specs.declared.attempt.Outcome.TheVariants as outcomes
use Rattle.history_reader.specs.declared.verb.Verb.TheVariants as verbs
use Rattle.history_reader.proofs.Values.{low_is, same_datum}

-- ## Numbers

-- a number between two is read as it was
pub ranged_again : (low high n : ℕ) → low ≤ n → n ≤ high → n < 2 ^ 64 → ranged low high (decimal n) ≡ Ok n
unfolding ranged
ranged_again low high n l h fits = ap (λ (r : Result ℕ FaultKind). r >>= within low high) (number_again n fits) ∙ within_again low high n l h

-- ## Bytes

-- where they are as many as may be, they are read as the bytes
bytes_again : (fits : Bool) (bytes : List ℕ) → fits ≡ true → IsBytes bytes → 1 ≤ length bytes → bytes_if fits (encode_lower bytes) ≡ Ok bytes
bytes_again fits bytes e h some = rw (even_digits is_lower_digit refl bytes h some, e) (ap (λ (bs : List ℕ). Ok bs) (decoded_is _ _ (decode_of-encode_lower bytes h)))

-- so many bytes are read as they were
pub sized_again : (n : ℕ) (bytes : List ℕ) → length bytes ≡ n → 1 ≤ n → IsBytes bytes → sized n (encode_lower bytes) ≡ Ok bytes
unfolding sized
sized_again n bytes e some h =
    let twice = length-encode_with lower_digits bytes in
    bytes_again (eqb (length (encode_lower bytes) / 2) n) bytes (eq-eqb _ n (omega arith)) h (omega arith)

-- a memory is read as it was
pub memory_again : (limit : ℕ) (bytes : List ℕ) → IsMemory limit bytes → memory_bytes limit (encode_lower bytes) ≡ Ok bytes
unfolding memory_bytes
memory_again limit bytes h =
    let twice = length-encode_with lower_digits bytes in
    let some : 8 ≤ length bytes = h.1 in
    let few : length bytes ≤ limit = h.2 in
    let words : length bytes % 8 ≡ 0 = h.3 in
    let low : leb 16 (length (encode_lower bytes)) ≡ true = le-leb 16 _ (omega arith) in
    let high : leb (length (encode_lower bytes)) (2 * limit) ≡ true = le-leb _ (2 * limit) (omega arith) in
    let whole : eqb (length (encode_lower bytes) % 16) 0 ≡ true = eq-eqb _ 0 (omega arith) in
    bytes_again (are_words limit (length (encode_lower bytes))) bytes (rw (low, high, whole) refl) h.0 (omega arith)

-- digits are even in number, and so no text that is odd in length
pub no_digits : (bytes text : List ℕ) → length text % 2 ≡ 1 → bytes_eq (encode_lower bytes) text ≡ false
no_digits bytes text odd =
    elim (cases_Bool (bytes_eq (encode_lower bytes) text)) [
      | inl same ↦
          let twice = length-encode_with lower_digits bytes in
          absurd (omega (arith, ap length ((bytes_eq-Decides (encode_lower bytes) text).0 same)))
      | inr other ↦ other
    ]

-- an arena is read as it was
pub arena_again : (bytes : List ℕ) → IsBytes bytes → length bytes ≤ MAX_ARENA → arena_bytes (arena_text bytes) ≡ Ok bytes
unfolding arena_bytes
arena_again [] h few = refl
arena_again (b ∷ rest) h few =
    let twice = length-encode_with lower_digits (b ∷ rest) in
    let some : eqb (length (b ∷ rest)) 0 ≡ false = ne_eqb _ 0 (λ e. omega arith) in
    let high : leb (length (encode_lower (b ∷ rest))) (2 * MAX_ARENA) ≡ true = le-leb _ (2 * MAX_ARENA) (omega arith) in
    ap (λ (t : Bool). arena_bytes (cond t (codes "-") (encode_lower (b ∷ rest)))) some
    ∙ ap (λ (t : Bool). cond t (Ok []) (bytes_if (leb (length (encode_lower (b ∷ rest))) (2 * MAX_ARENA)) (encode_lower (b ∷ rest)))) (no_digits (b ∷ rest) (codes "-") refl)
    ∙ bytes_again (leb (length (encode_lower (b ∷ rest))) (2 * MAX_ARENA)) (b ∷ rest) high h (omega arith)

-- so is the arena from which a block ran again
pub restart_again : (n : ℕ) (bytes : List ℕ) → IsBytes bytes → length bytes ≡ n → restart_bytes n (arena_text bytes) ≡ Ok bytes
unfolding restart_bytes
restart_again n [] h e =
    let none : Bool → Result (List ℕ) FaultKind = λ t. cond t (Ok []) (Err kinds.Range) in
    ap none (eq-eqb n 0 (sym e))
restart_again n (b ∷ rest) h e =
    let some : eqb (length (b ∷ rest)) 0 ≡ false = ne_eqb _ 0 (λ f. omega arith) in
    ap (λ (t : Bool). restart_bytes n (cond t (codes "-") (encode_lower (b ∷ rest)))) some
    ∙ ap (λ (t : Bool). cond t (cond (eqb n 0) (Ok []) (Err kinds.Range)) (sized n (encode_lower (b ∷ rest)))) (no_digits (b ∷ rest) (codes "-") refl)
    ∙ sized_again n (b ∷ rest) e (omega (arith, e)) h

-- ## How many blocks may be open

pub depth_again : (d : Depth) → depth (decimal d.blocks) ≡ Ok d
unfolding depth
depth_again d =
    let some : 1 ≤ d.blocks = omega (arith, d.some) in
    let few : d.blocks ≤ MAX_DEPTH = d.few in
    rw (ranged_again 1 MAX_DEPTH d.blocks some few (omega (arith, few))) (ap (λ (z : Depth). Ok z) (same_depth (depth_from d.blocks) d (near_is d.blocks some few)))

-- ## Values of a width

-- a value has bytes
pub some_bytes : (w : Width) → 1 ≤ size_of w
some_bytes F = omega arith
some_bytes w = omega arith

-- a value is read as it was
pub datum_again : (d : Datum) → IsDatum d → datum d.width (encode_lower d.bytes.items) ≡ Ok d
unfolding datum
datum_again d h =
    let items = d.bytes.items in
    rw (sized_again (size_of d.width) items d.sized (some_bytes d.width) h) (ap (λ (v : Datum). Ok v) (same_datum (datum_of d.width items) d refl (low_is (size_of d.width) items d.sized)))

-- ## Words

-- how an attempt stands is read as it was
pub outcome_again : (o : Outcome) → outcome (outcome_name o) ≡ Ok o
unfolding outcome
outcome_again outcomes.Full = refl
outcome_again o = refl

-- when an action runs is read as it was
pub kind_again : (k : ActionKind) → kind (kind_text k) ≡ Ok k
unfolding kind
kind_again when.Commit = refl
kind_again when.Undo = refl

-- each of the 8 sets of properties
made_again : (abort irrevocable goes : Bool) → block_props (props_text (record { no_abort = abort; no_irrevocable = irrevocable; goes_irrevocable = goes })) ≡ Ok (record { no_abort = abort; no_irrevocable = irrevocable; goes_irrevocable = goes })
unfolding block_props
made_again false false false = refl
made_again false true false = refl
made_again true false false = refl
made_again true true false = refl
made_again abort irrevocable goes = refl

-- the properties of a block are read as they were
pub block_props_again : (p : Props) → block_props (props_text p) ≡ Ok p
block_props_again p = made_again p.no_abort p.no_irrevocable p.goes_irrevocable

-- ## Refusals

-- the number of a refusal is one of 8
pub refusal_number : (r : Refusal) → (1 ≤ number_of r) × (number_of r ≤ 8)
refusal_number refusals.Outside = (omega arith, omega arith)
refusal_number r = (omega arith, omega arith)

-- the number of a refusal says the refusal
pub refusal_again : (r : Refusal) → refusal_of (number_of r) ≡ r
unfolding refusal_of
refusal_again refusals.Outside = refl
refusal_again r = refl

-- ## Names

-- an entry point, or an access of the arena in 1, 2, 4 or 8 bytes
abbrev pub IsCalled : Verb → Type 0
IsCalled (verbs.Point point) = Unit {0}
IsCalled (verbs.Load width) = IsArenaWidth width
IsCalled (verbs.Save width) = IsArenaWidth width

-- what holds of the accesses in 1, 2, 4 and 8 bytes
pub arena_cases : (P : Width → Type 0) → P U1 → P U2 → P U4 → P U8 → (w : Width) → IsArenaWidth w → P w
arena_cases P one two four eight w (inl e) = subst P (sym e) one
arena_cases P one two four eight w (inr (inl e)) = subst P (sym e) two
arena_cases P one two four eight w (inr (inr (inl e))) = subst P (sym e) four
arena_cases P one two four eight w (inr (inr (inr e))) = subst P (sym e) eight

-- an access that stands in the table is found by its name
access_again : (v : Verb) → lookup access_names (verb_text v) ≡ Some v → verb_of (verb_text v) ≡ Some v
unfolding verb_of
access_again v e = ap (λ (o : Option Verb). or_point o (verb_text v)) e

-- a read of so many bytes of the arena
load_again : (n : ℕ) (v : Verb) → n < 10 → lookup access_names (codes "ld" ++ (48 + n) ∷ []) ≡ Some v → lookup access_names (codes "ld" ++ decimal n) ≡ Some v
load_again n v h e = ap (λ (ds : List ℕ). lookup access_names (codes "ld" ++ ds)) (decimal_digit n h) ∙ e

-- a write of so many
save_again : (n : ℕ) (v : Verb) → n < 10 → lookup access_names (codes "st" ++ (48 + n) ∷ []) ≡ Some v → lookup access_names (codes "st" ++ decimal n) ≡ Some v
save_again n v h e = ap (λ (ds : List ℕ). lookup access_names (codes "st" ++ ds)) (decimal_digit n h) ∙ e

-- an entry point is found by its name
point_again : (point : Point) → verb_of (name_of point) ≡ Some (verbs.Point point)
unfolding verb_of
point_again point = ap point_verb ((entry_of-exact (name_of point) point).1 refl)

-- what is called is found by its name
pub verb_again : (v : Verb) → IsCalled v → verb_of (verb_text v) ≡ Some v
verb_again (verbs.Point point) h = point_again point
verb_again (verbs.Load width) h =
    access_again (verbs.Load width)
    (arena_cases (λ w. lookup access_names (verb_text (verbs.Load w)) ≡ Some (verbs.Load w)) (load_again 1 (verbs.Load U1) (lit< tt) refl) (load_again 2 (verbs.Load U2) (lit< tt) refl)
    (load_again 4 (verbs.Load U4) (lit< tt) refl) (load_again 8 (verbs.Load U8) (lit< tt) refl) width h)
verb_again (verbs.Save width) h =
    access_again (verbs.Save width)
    (arena_cases (λ w. lookup access_names (verb_text (verbs.Save w)) ≡ Some (verbs.Save w)) (save_again 1 (verbs.Save U1) (lit< tt) refl) (save_again 2 (verbs.Save U2) (lit< tt) refl)
    (save_again 4 (verbs.Save U4) (lit< tt) refl) (save_again 8 (verbs.Save U8) (lit< tt) refl) width h)
