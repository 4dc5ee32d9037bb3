-- The text of a program says the program.
use Rattle.std.proofs.Common.{◌≡◌, ℕ, ◌+◌, ◌<◌, ◌≤◌, List, [], ◌∷◌, ◌++◌, length, map, None, Ok, refl, sym, ap, ◌∙◌, arith}
use Rattle.script_print.proofs.Common.{AllByRecursion, Item, Listing, MAX_TEXT, Out, Sections, State, Take, USUAL_DEPTH, end_of, flat_map, init_fields, initial, item_fields, joined, le-ltb, limit_lines, lines, lines_again, lines_say, lt-ltb, part_lines, parts_of, printed, program_lines, program_of, stray_of, thread_total}
use Rattle.script_print.proofs.Printable.{IsItem, IsPrintable, threads_in}
use Rattle.script_print.proofs.Assembly.Sections.{threads_read}
use Rattle.script_print.proofs.Texts.Lines.{all_said, lines_said, lines_made, said_on}
use Rattle.script_print.proofs.Texts.Fields.{program_field}
use Rattle.script_print.proofs.Texts.Directives.{with_memory, with_limits, unless_again, limits_said, inits_said}
use Rattle.script_print.proofs.Texts.Items.{with_items, items_said}
use Rattle.script_print.proofs.Texts.Sections.{with_sections, parts_said}

-- ## The lines

-- what the lines before the sections leave, whatever the lines of the items
abbrev planned : Listing → List ℕ → State
planned p places = with_items (with_memory (with_limits p) p.memory) p.schedule places

-- what all lines leave
abbrev ended : Listing → List ℕ → Sections → State
ended p places t = with_sections (planned p places) t

-- the lines of a program leave its parts
abbrev Says : Listing → Type 0
Says p = (places : List ℕ) × (t : Sections) × (0 < t.count) × (parts_of t ≡ p.parts) × (all_said initial 1 (program_lines p) ≡ Ok (ended p places t))

program_said : (p : Listing) → IsPrintable p → Says p
program_said p h =
    let sizes = limit_lines p in
    let inits = map init_fields p.memory.inits in
    let items = map item_fields p.schedule in
    let sections = flat_map part_lines p.parts in
    let one = limits_said p 1 h.size h.arena h.limits in
    let two = inits_said p.memory.inits (with_limits p) (1 + length sizes) (record { size = p.memory.size; inits = [] }) refl h.size.1 h.inits in
    let first = said_on sizes inits initial (with_limits p) 1 one ∙ two in
    let three = items_said p.schedule (with_memory (with_limits p) p.memory) (1 + length (sizes ++ inits)) (threads_in p.parts) refl h.threads (omega (arith, h.items)) h.schedule in
    let second = said_on (sizes ++ inits) items initial (with_memory (with_limits p) p.memory) 1 first ∙ three.1 in
    let four = parts_said p.parts (planned p three.0) (1 + length (sizes ++ inits ++ items)) refl h.some h.threads h.instructions h.parts in
    (three.0, four.0, four.1, four.2, said_on (sizes ++ inits ++ items) sections initial (planned p three.0) 1 second ∙ four.3)

-- ## The end

no_stray : (n : ℕ) (items : List Item) (places : List ℕ) → AllByRecursion (IsItem n) items → stray_of n items places ≡ None
no_stray n [] places h = refl
no_stray n (i ∷ items) [] h = refl
no_stray n (Take thread count ∷ items) (line ∷ places) h = rw (lt-ltb thread n h.0.0) (no_stray n items places h.1)
no_stray n (Out thread ∷ items) (line ∷ places) h = rw (lt-ltb thread n h.0) (no_stray n items places h.1)

ends_well : (p : Listing) (places : List ℕ) (t : Sections) → IsPrintable p → 0 < t.count → parts_of t ≡ p.parts → end_of (ended p places t) ≡ Ok p
unfolding end_of
ends_well p places t h some parts =
    let threads : thread_total t ≡ threads_in p.parts = sym (threads_read t) ∙ ap threads_in parts in
    let named : stray_of (thread_total t) p.schedule places ≡ None = ap (λ (n : ℕ). stray_of n p.schedule places) threads ∙ no_stray (threads_in p.parts) p.schedule places h.schedule in
    rw (lt-ltb 0 t.count some, named) (λ i. Ok (record p { limits = record p.limits { depth = unless_again USUAL_DEPTH p.limits.depth i; restarts = unless_again 0 p.limits.restarts i }; parts = parts i }))

-- ## The text

-- a program that is printed is read as it was
pub printed_again : (p : Listing) → IsPrintable p → length (printed p) ≤ MAX_TEXT → program_of (printed p) ≡ Ok p
unfolding printed program_of
printed_again p h short =
    let fields = program_field p h in
    let says = program_said p h in
    let same : lines_say initial 1 (lines (printed p)) ≡ Ok (ended p says.0 says.1) =
    ap (lines_say initial 1) (lines_again (map joined (program_lines p)) (lines_made (program_lines p) fields)) ∙ lines_said (program_lines p) initial 1 fields ∙ says.4 in
    rw (le-ltb MAX_TEXT (length (printed p)) short, same) (ends_well p says.0 says.1 h says.2 says.3)
