use Rattle.std.proofs.Common.{◌≡◌, ◌+◌, ◌∷◌, ℕ, List, length, drop, slice_index, arith, ap, ◌∙◌, ⊎_elim}
use Rattle.shared_words.proofs.Common.{bytes_of, cells_of, view_of}
use Rattle.itm_types.proofs.Words.{length-bytes_of}
use Rattle.shared_words.proofs.words.Words.new.Goals as goal

pub of_cells-requires : goal.of_cells-requires
of_cells-requires c = record { clock = ap (λ (l : List ℕ). slice_index l 0) c.in-Ok.ensures.clock }

pub unreachable-requires : goal.unreachable-requires
unreachable-requires c =
    let words : List ℕ = drop 1 c.in-Ok.cells.items in
    let count : length c.in-Ok.cells.items ≡ length words + 1 = ap length c.in-Ok.ensures.clock ∙ (let e : length (0 ∷ words) ≡ length words + 1 = omega arith in e) in
    let bytes : length (bytes_of words) ≡ length c.args.bytes.now = ap length c.in-Ok.ensures.words in
    let each = length-bytes_of words in
    ⊎_elim (λ few. omega (arith, c.if-bytes-eq0.false)) (λ many. omega (arith, c.if-bytes-gt-MAX_MEMORY.false)) c.in_default-of_cells.ensures.wrong

pub returns-clause-size : goal.returns-clause-size
returns-clause-size c =
    let cells : cells_of c.in-Ok-of_cells.made.0 ≡ length c.in-Ok.cells.items = c.in-Ok-of_cells.ensures.size in
    let words : List ℕ = drop 1 c.in-Ok.cells.items in
    let count : length c.in-Ok.cells.items ≡ length words + 1 = ap length c.in-Ok.ensures.clock ∙ (let e : length (0 ∷ words) ≡ length words + 1 = omega arith in e) in
    let bytes : length (bytes_of words) ≡ length c.args.bytes.now = ap length c.in-Ok.ensures.words in
    omega (arith, length-bytes_of words)

pub returns-clause-bytes : goal.returns-clause-bytes
returns-clause-bytes c =
    let base : List ℕ = (view_of c.in-Ok-of_cells.made.1).base in
    let words : base ≡ drop 1 c.in-Ok.cells.items = ap (drop 1) c.in-Ok-of_cells.ensures.words in
    ap bytes_of words ∙ c.in-Ok.ensures.words
