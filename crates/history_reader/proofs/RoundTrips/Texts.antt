-- The text of a history that a text can tell is read as that history.
use Rattle.std.proofs.Common.{◌≡◌, ℕ, ◌≤◌, List, [], ◌∷◌, ◌++◌, length, Ok, refl, sym, ap, subst, ◌∙◌, arith, append_assoc, append-nil, lit<, codes, decimal, flat_map}
use Rattle.history_reader.proofs.Common.{History, IsAttempt, IsField, IsHistory, IsMemory, One, State, Three, Two, Version, attempt_lines, depth_fields, encode_lower, end_of, first_lines, history_text, initial, is_feed, joined, last_line, meaning, memory_fields, memory_limit, parts_say, read_of, recursion_from_All, slice_split, version_lines}
use Rattle.history_reader.specs.declared.state.Place.TheVariants as places
use Rattle.history_reader.proofs.RoundTrips.AttemptTexts.{attempts_lead, between}
use Rattle.history_reader.proofs.RoundTrips.LeadingLines.{Leads, fields_lead, leads_on, line_leads}
use Rattle.history_reader.proofs.RoundTrips.Spellings.{AreFields, depth_are, memory_are, final_are}
use Rattle.history_reader.proofs.Exactness.Lines.{depth_joined, memory_joined, final_joined}
use Rattle.history_reader.proofs.RoundTrips.Lines.{depth_says, memory_says, final_says}

-- the lines of the version were read
abbrev begun : Version → State
begun version = record { place = places.AtMemory; version = version; memory = []; attempts = []; arena = []; calls = []; restarts = []; ran = []; bytes = [] }

-- the first line of the third version was read
abbrev asked : State
asked = record { place = places.AtDepth; version = One; memory = []; attempts = []; arena = []; calls = []; restarts = []; ran = []; bytes = [] }

-- all lines were read
abbrev over : History → State
over h = record { place = places.AtEnd h.clock; version = h.version; memory = h.memory; attempts = h.attempts; arena = []; calls = []; restarts = []; ran = []; bytes = h.bytes }

-- the first line is of two fields
header_field : (name : List ℕ) → IsField name → AreFields (codes "itm-history" ∷ name ∷ [])
header_field name h = ((lit< tt, refl), (h, tt))

-- the lines of the version leave it
version_leads : (version : Version) (rest : List ℕ) → Leads initial (begun version) (version_lines version ++ rest) rest
unfolding meaning
version_leads One rest = line_leads initial (begun One) (codes "itm-history" ∷ codes "1" ∷ []) (codes "itm-history 1\n") rest refl (header_field (codes "1") (lit< tt, refl)) refl
version_leads Two rest = line_leads initial (begun Two) (codes "itm-history" ∷ codes "2" ∷ []) (codes "itm-history 2\n") rest refl (header_field (codes "2") (lit< tt, refl)) refl
version_leads (Three depth) rest =
    let line : List ℕ = joined (depth_fields depth.blocks) ++ 10 ∷ [] in
    let one : Leads initial asked (codes "itm-history 3\n" ++ (line ++ rest)) (line ++ rest) =
    line_leads initial asked (codes "itm-history" ∷ codes "3" ∷ []) (codes "itm-history 3\n") (line ++ rest) refl (header_field (codes "3") (lit< tt, refl)) refl in
    let two : Leads asked (begun (Three depth)) (line ++ rest) rest =
    fields_lead asked (begun (Three depth)) (codes "depth") (decimal depth.blocks ∷ []) line rest refl refl (depth_are depth.blocks depth.few) (depth_says asked depth) in
    subst (λ (text : List ℕ). Leads initial (begun (Three depth)) text rest)
    (sym (ap (λ (l : List ℕ). l ++ rest) (depth_joined depth) ∙ append_assoc (codes "itm-history 3\n") line rest))
    (leads_on initial asked (begun (Three depth)) (codes "itm-history 3\n" ++ (line ++ rest)) (line ++ rest) rest one two)

-- the line of the memory before the run
abbrev memory_line : List ℕ → List ℕ
memory_line bytes = joined (memory_fields bytes) ++ 10 ∷ []

-- the first lines in a row
first_parts : (version : Version) (bytes rest : List ℕ) → first_lines version bytes ++ rest ≡ version_lines version ++ (memory_line bytes ++ rest)
first_parts version bytes rest = ap (λ (l : List ℕ). l ++ rest) (memory_joined version bytes) ∙ append_assoc (version_lines version) (memory_line bytes) rest

-- the first lines leave the memory before the run
first_lead : (version : Version) (bytes rest : List ℕ) → IsMemory (memory_limit version) bytes → Leads initial (between version bytes []) (first_lines version bytes ++ rest) rest
unfolding meaning
first_lead version bytes rest h =
    let two : Leads (begun version) (between version bytes []) (memory_line bytes ++ rest) rest =
    fields_lead (begun version) (between version bytes []) (codes "memory") (encode_lower bytes ∷ []) (memory_line bytes) rest refl refl (memory_are (memory_limit version) bytes h) (memory_says (begun version) bytes h) in
    subst (λ (text : List ℕ). Leads initial (between version bytes []) text rest) (sym (first_parts version bytes rest))
    (leads_on initial (begun version) (between version bytes []) (version_lines version ++ (memory_line bytes ++ rest)) (memory_line bytes ++ rest) rest (version_leads version (memory_line bytes ++ rest)) two)

-- the last line leaves the clock and the memory after the run
last_leads : (h : History) (rest : List ℕ) → IsHistory h → Leads (between h.version h.memory h.attempts) (over h) (last_line h.clock h.bytes ++ rest) rest
unfolding meaning
last_leads h rest is =
    let s : State = between h.version h.memory h.attempts in
    let many : 8 ≤ length h.memory = is.memory.1 in
    let same : length h.bytes ≡ length h.memory = is.bytes.1 in
    fields_lead s (over h) (codes "final") (decimal h.clock ∷ encode_lower h.bytes ∷ []) (last_line h.clock h.bytes) rest (final_joined h.clock h.bytes) refl (final_are h.clock h.bytes is.clock is.bytes.0 (omega arith))
    (final_says s h.clock h.bytes is.clock is.bytes.0 same (omega arith))

-- the parts of a text in a row
history_parts : (h : History) → history_text h ≡ first_lines h.version h.memory ++ (flat_map attempt_lines h.attempts ++ (last_line h.clock h.bytes ++ []))
unfolding history_text
history_parts h =
    append_assoc (first_lines h.version h.memory) (flat_map attempt_lines h.attempts) (last_line h.clock h.bytes)
    ∙ ap (λ (t : List ℕ). first_lines h.version h.memory ++ (flat_map attempt_lines h.attempts ++ t)) (sym (append-nil (last_line h.clock h.bytes)))

-- behind the last line there is nothing, and the history is whole
ends_so : (h : History) (n : ℕ) → parts_say (over h) n (slice_split is_feed []) ≡ Ok h
unfolding end_of
ends_so h n = refl

-- the text of a history that a text can tell is read as that history
pub read_again : (h : History) → IsHistory h → read_of (history_text h) ≡ Ok h
unfolding read_of
read_again h is =
    let last : List ℕ = last_line h.clock h.bytes ++ [] in
    let middle : List ℕ = flat_map attempt_lines h.attempts ++ last in
    let all : Leads initial (over h) (first_lines h.version h.memory ++ middle) [] =
    leads_on initial (between h.version h.memory []) (over h) (first_lines h.version h.memory ++ middle) middle [] (first_lead h.version h.memory middle is.memory)
    (leads_on (between h.version h.memory []) (between h.version h.memory h.attempts) (over h) middle last [] (attempts_lead h.version h.memory [] h.attempts last (recursion_from_All (IsAttempt h.version) h.attempts is.attempts))
    (last_leads h [] is)) in
    ap (λ (text : List ℕ). parts_say initial 1 (slice_split is_feed text)) (history_parts h) ∙ (all 1).1 ∙ ends_so h (all 1).0

-- the same of a text that is one
pub text_read_again : (text : List ℕ) (h : History) → IsHistory h → text ≡ history_text h → read_of text ≡ Ok h
text_read_again text h is e = ap read_of e ∙ read_again h is
