-- The lines of sizes, limits and bytes say them.
use Rattle.std.proofs.Common.{◌≡◌, ℕ, ◌+◌, ◌^◌, ◌<◌, ◌≤◌, decimal, true, false, List, [], ◌∷◌, ◌++◌, length, map, Option, Some, None, Ok, refl, sym, ap, ◌∙◌, arith, append_assoc, inl, inr, codes, ◌==◌, if◌then◌else◌, ◌%◌}
use Rattle.script_print.proofs.Common.{AllByRecursion, AreWithin, Bounds, IsSize, Listing, MAX_ARENA, MAX_COMMITS, MAX_DEPTH, MAX_MEMORY, MAX_PATIENCE, MAX_RESTARTS, MAX_RETRIES, Placed, Shared, State, USUAL_DEPTH, append-nil, at_line, cases_eq, depth_lines, digits_again_hex, eq-eqb, has_begun, init_fields, init_of, initial, laid_in, le-leb, limit_lines, limit_of, limit_of_again, may_stand, ne_eqb, number_again, number_fields, obeyed, one, restart_lines, said, size_of, two, word_of, ◌>>=◌}
use Rattle.std.specs.Prelude.{unwrap_or}
use Rattle.script_asm.specs.declared.mnemonics.Word.{Word}
use Rattle.script_asm.specs.declared.mnemonics.Word.TheVariants as words
use Rattle.script_print.proofs.Printable.{IsInit}
use Rattle.script_print.proofs.Texts.Lines.{all_said, lines_unless, said_next, said_on}

-- ## Sizes and limits

-- the memory of so many bytes, all of them zero
abbrev empty : ℕ → Shared
empty size = record { size = size; inits = [] }

abbrev pub with_memory : State → Shared → State
with_memory s m = record s { memory = Some m }

memory_said : (s : State) (n m : ℕ) → may_stand s words.Memory ≡ true → IsSize m → said s n (number_fields (codes ".memory") m) ≡ Ok (with_memory s (empty m))
unfolding word_of obeyed size_of one
memory_said s n m may h = rw (may, number_again m (omega (arith, h.1)), le-leb 8 m h.0, le-leb m MAX_MEMORY h.1, eq-eqb (m % 8) 0 h.2) refl

-- a limit between the two
limit_said : (s : State) (n low high k : ℕ) (word : List ℕ) (w : Word) (b : ℕ → Bounds) → word_of word ≡ Some w → may_stand s w ≡ true
    → obeyed s n w (decimal k ∷ []) ≡ (at_line n (limit_of low high (decimal k ∷ [])) >>= λ m. Ok (record s { limits = b m })) → low ≤ k → k ≤ high → k < 2 ^ 64 → said s n (number_fields word k) ≡ Ok (record s { limits = b k })
limit_said s n low high k word w b is may obeys l h small = rw (is, may, obeys, limit_of_again low high k l h small) refl

-- ## All of them

-- after the lines of sizes and limits so far
abbrev sized : ℕ → State
sized size = with_memory initial (empty size)

abbrev bounded : ℕ → Option ℕ → Option ℕ → Option ℕ → Option ℕ → Option ℕ → Option ℕ → State
bounded size arena patience retries commits restarts depth = record (sized size) { limits = record { arena = arena; patience = patience; retries = retries; commits = commits; restarts = restarts; depth = depth } }

-- what is said of a number, unless it is the usual one
abbrev pub said_unless : ℕ → ℕ → Option ℕ
said_unless usual k = if k == usual then None else Some k

pub unless_again : (usual k : ℕ) → unwrap_or (said_unless usual k) usual ≡ k
unless_again usual k =
    elim (cases_eq k usual) [
      | inl same ↦ rw (eq-eqb k usual same) (sym same)
      | inr other ↦ rw (ne_eqb k usual other) refl
    ]

-- after its line, or none
unless_said : (usual k : ℕ) (word : List ℕ) (f : Option ℕ → State) (n : ℕ) → said (f None) n (number_fields word k) ≡ Ok (f (Some k)) → all_said (f None) n (lines_unless usual word k) ≡ Ok (f (said_unless usual k))
unless_said usual k word f n e =
    elim (cases_eq k usual) [
      | inl same ↦ rw (eq-eqb k usual same) refl
      | inr other ↦ rw (ne_eqb k usual other) (said_next (number_fields word k) [] (f None) (f (Some k)) n e)
    ]

-- after all of them
abbrev pub with_limits : Listing → State
with_limits p = bounded p.memory.size (Some p.arena) (Some p.limits.patience) (Some p.limits.retries) (Some p.limits.max_commits) (said_unless 0 p.limits.restarts) (said_unless USUAL_DEPTH p.limits.depth)

pub limits_said : (p : Listing) (n : ℕ) → IsSize p.memory.size → p.arena ≤ MAX_ARENA → AreWithin p.limits → all_said initial n (limit_lines p) ≡ Ok (with_limits p)
unfolding word_of obeyed
limits_said p n size arena within =
    let m = p.memory.size in
    let l = p.limits in
    let one = bounded m (Some p.arena) None None None None None in
    let two = bounded m (Some p.arena) (Some l.patience) None None None None in
    let three = bounded m (Some p.arena) (Some l.patience) (Some l.retries) None None None in
    let four = bounded m (Some p.arena) (Some l.patience) (Some l.retries) (Some l.max_commits) in
    let last = number_fields (codes ".commits") l.max_commits ∷ (restart_lines l.restarts ++ depth_lines l.depth) in
    let fourth = number_fields (codes ".retries") l.retries ∷ last in
    let third = number_fields (codes ".patience") l.patience ∷ fourth in
    let second = number_fields (codes ".arena") p.arena ∷ third in
    let end = n + 1 + 1 + 1 + 1 + 1 in
    said_next (number_fields (codes ".memory") m) second initial (sized m) n (memory_said initial n m refl size)
    ∙ said_next (number_fields (codes ".arena") p.arena) third (sized m) one (n + 1) (limit_said (sized m) (n + 1) 0 MAX_ARENA p.arena (codes ".arena") words.Arena (λ k. record (sized m).limits { arena = Some k }) refl refl refl (omega arith) arena (omega arith))
    ∙ said_next (number_fields (codes ".patience") l.patience) fourth one two (n + 1 + 1) (limit_said one (n + 1 + 1) 1 MAX_PATIENCE l.patience (codes ".patience") words.Patience (λ k. record one.limits { patience = Some k }) refl refl refl within.patience.0 within.patience.1 (omega arith))
    ∙ said_next (number_fields (codes ".retries") l.retries) last two three (n + 1 + 1 + 1) (limit_said two (n + 1 + 1 + 1) 0 MAX_RETRIES l.retries (codes ".retries") words.Retries (λ k. record two.limits { retries = Some k }) refl refl refl (omega arith) within.retries (omega arith))
    ∙ said_next (number_fields (codes ".commits") l.max_commits) (restart_lines l.restarts ++ depth_lines l.depth) three (four None None) (n + 1 + 1 + 1 + 1) (limit_said three (n + 1 + 1 + 1 + 1) 1 MAX_COMMITS l.max_commits (codes ".commits") words.Commits (λ k. record three.limits { commits = Some k }) refl refl refl within.commits.0 within.commits.1 (omega arith))
    ∙ said_on (restart_lines l.restarts) (depth_lines l.depth) (four None None) (four (said_unless 0 l.restarts) None) end (unless_said 0 l.restarts (codes ".restarts") (λ o. four o None) end
    (limit_said (four None None) end 0 MAX_RESTARTS l.restarts (codes ".restarts") words.Restarts (λ k. record (four None None).limits { restarts = Some k }) refl refl refl (omega arith) within.restarts (omega arith)))
    ∙ unless_said USUAL_DEPTH l.depth (codes ".depth") (four (said_unless 0 l.restarts)) (end + length (restart_lines l.restarts))
    (limit_said (four (said_unless 0 l.restarts) None) (end + length (restart_lines l.restarts)) 1 MAX_DEPTH l.depth (codes ".depth") words.Depth (λ k. record (four (said_unless 0 l.restarts) None).limits { depth = Some k }) refl refl refl within.depth.0 within.depth.1 (omega arith))

-- ## Bytes of the memory

init_said : (s : State) (n : ℕ) (m : Shared) (i : Placed) → has_begun s ≡ false → m.size ≤ MAX_MEMORY → IsInit m.size i → said (with_memory s m) n (init_fields i) ≡ Ok (with_memory s (record m { inits = m.inits ++ i ∷ [] }))
unfolding word_of obeyed laid_in init_of two
init_said s n m i early few h =
    rw (early, number_again i.at (omega (arith, h.3)), digits_again_hex i.bytes h.0 h.1 h.2, le-leb (i.at + length i.bytes) m.size h.3) refl

pub inits_said : (inits : List Placed) (s : State) (n : ℕ) (m : Shared) → has_begun s ≡ false → m.size ≤ MAX_MEMORY → AllByRecursion (IsInit m.size) inits
    → all_said (with_memory s m) n (map init_fields inits) ≡ Ok (with_memory s (record m { inits = m.inits ++ inits }))
inits_said [] s n m early few h = ap (λ (l : List Placed). Ok (with_memory s (record m { inits = l }))) (sym (append-nil m.inits))
inits_said (i ∷ inits) s n m early few h =
    said_next (init_fields i) (map init_fields inits) (with_memory s m) (with_memory s (record m { inits = m.inits ++ i ∷ [] })) n (init_said s n m i early few h.0)
    ∙ inits_said inits s (n + 1) (record m { inits = m.inits ++ i ∷ [] }) early few h.1
    ∙ ap (λ (l : List Placed). Ok (with_memory s (record m { inits = l }))) (append_assoc m.inits (i ∷ []) inits)
