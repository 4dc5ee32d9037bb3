-- Threads and instructions, section by section.
use Rattle.std.proofs.Common.{◌≡◌, ℕ, zero, suc, ◌+◌, ◌-◌, ◌<◌, ◌≤◌, List, [], ◌∷◌, ◌++◌, length, take, drop, get_or, replicate, Some, refl, sym, ap, ◌∙◌, arith, drop-cons, add-one}
use Rattle.std.specs.Prelude.{slice_get}
use Rattle.std.specs.List.{sum_by, flat_map}
use Rattle.std.proofs.lemmas.Grind.{fold-append, common_steps}
use Rattle.std.proofs.lemmas.List.{length-replicate, take_more}
use Rattle.std.proofs.lemmas.List.Concat.{length-flat_map}
use Rattle.script_program.specs.declared.instruction.Instruction.{Instruction}
use Rattle.script_program.specs.Listing.{Part, codes_of}
use Rattle.script_program.specs.Sections.{Sections, parts_of, thread_total}

pub threads_more : (ended : List Part) (p : Part) → sum_by (λ p. p.count) (ended ++ p ∷ []) ≡ sum_by (λ p. p.count) ended + p.count
threads_more ended p = fold-append (λ (a : ℕ) (x : Part). a + x.count) 0 ended (p ∷ [])

pub code_more : (ended : List Part) (p : Part) → sum_by (λ p. length p.code) (ended ++ p ∷ []) ≡ sum_by (λ p. length p.code) ended + length p.code
code_more ended p = fold-append (λ (a : ℕ) (x : Part). a + length x.code) 0 ended (p ∷ [])

-- as many codes as threads
pub codes_length : (t : Sections) → length (codes_of (parts_of t)) ≡ thread_total t
unfolding codes_of thread_total
codes_length t = length-flat_map (λ (p : Part). replicate p.count p.code) (parts_of t) ∙ simp length-replicate (threads_more t.ended (record { count = t.count; code = t.code }))

-- a code among those of the first part
get_first : (n i : ℕ) (x : List Instruction) (more : List (List Instruction)) → i < n → slice_get (replicate n x ++ more) i ≡ Some x
get_first zero i x more h = absurd (omega arith)
get_first (suc n) zero x more h = refl
get_first (suc n) (suc i) x more h = get_first n i x more (omega arith)

-- a code after those of the first part
get_next : (n i : ℕ) (x : List Instruction) (more : List (List Instruction)) → n ≤ i → slice_get (replicate n x ++ more) i ≡ slice_get more (i - n)
get_next zero i x more h = ap (slice_get more) (omega arith)
get_next (suc n) zero x more h = absurd (omega arith)
get_next (suc n) (suc i) x more h = get_next n i x more (omega arith) ∙ ap (slice_get more) (omega arith)

pub code_here : (p : Part) (more : List Part) (i : ℕ) → i < p.count → slice_get (codes_of (p ∷ more)) i ≡ Some p.code
unfolding codes_of
code_here p more i h = get_first p.count i p.code (flat_map (λ (q : Part). replicate q.count q.code) more) h

pub code_after : (p : Part) (more : List Part) (i : ℕ) → p.count ≤ i → slice_get (codes_of (p ∷ more)) i ≡ slice_get (codes_of more) (i - p.count)
unfolding codes_of
code_after p more i h = get_next p.count i p.code (flat_map (λ (q : Part). replicate q.count q.code) more) h

next_part : (ended : List Part) (i : ℕ) (p : Part) → i < length ended → p ≡ get_or ended i p → drop i ended ≡ p ∷ drop (i + 1) ended
next_part ended i p h e = rw add-one (drop-cons ended i p h ∙ ap (λ (q : Part). q ∷ drop (suc i) ended) (sym e))

-- the code of a thread that is in the next part
pub found_here : (ended more : List Part) (i left : ℕ) (p : Part) → i < length ended → p ≡ get_or ended i p → left < p.count → slice_get (codes_of (drop i ended ++ more)) left ≡ Some p.code
found_here ended more i left p h e l =
    ap (λ (q : List Part). slice_get (codes_of (q ++ more)) left) (next_part ended i p h e) ∙ code_here p (drop (i + 1) ended ++ more) left l

-- the code of a thread that is in a part after it
pub goes_on : (ended more : List Part) (i left : ℕ) (p : Part) → i < length ended → p ≡ get_or ended i p → p.count ≤ left
    → slice_get (codes_of (drop i ended ++ more)) left ≡ slice_get (codes_of (drop (i + 1) ended ++ more)) (left - p.count)
goes_on ended more i left p h e l =
    ap (λ (q : List Part). slice_get (codes_of (q ++ more)) left) (next_part ended i p h e) ∙ code_after p (drop (i + 1) ended ++ more) left l

pub threads_taken : (ended : List Part) (i : ℕ) (p : Part) → i < length ended → p ≡ get_or ended i p → sum_by (λ p. p.count) (take (i + 1) ended) ≡ sum_by (λ p. p.count) (take i ended) + p.count
threads_taken ended i p h e = ap (sum_by (λ (q : Part). q.count)) (take_more ended i p h) ∙ threads_more (take i ended) (get_or ended i p) ∙ ap (λ (q : Part). sum_by (λ (q : Part). q.count) (take i ended) + q.count) (sym e)

pub past_all : (ended more : List Part) (i : ℕ) → length ended ≤ i → (drop i ended ++ more ≡ more) × (take i ended ≡ ended)
past_all ended more i h =
    let none : drop i ended ≡ [] = grind (arith, common_steps) in
    let all : take i ended ≡ ended = grind (arith, common_steps) in
    (ap (λ (q : List Part). q ++ more) none, all)
