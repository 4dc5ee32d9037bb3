-- A thread that goes back to just after the begin of its innermost block.
use Rattle.std.proofs.Common.{◌≡◌, ℕ, ◌-◌, ◌<◌, ◌≤◌, Bool, true, false, if◌then◌else◌, List, [], ◌∷◌, ◌++◌, length, take, nat_lt, Some, refl, sym, ap, ◌∙◌, arith, slice_get, slice_index_or}
use Rattle.script_vm.proofs.Common.{Block, Code, Instruction, Opened, R0, Thread, answered, at_block, back_in, closed, closed_is, depth_of, entered, innermost_of, le-ltb, length-closed, ltb-false, ltb-true, may_open, no_block, stopped, zeros}
use Rattle.std.proofs.lemmas.Option.{slice_get-get_or}
use Rattle.script_vm.proofs.KeptBlocks.{innermost_of_is}

some_open : (blocks : List Block) (b : Block) → innermost_of blocks ≡ Some b → 0 < length blocks
some_open [] b e = absurd (cc)
some_open (outer ∷ inner) b e = omega arith

-- the innermost one stands behind those that are left once it is closed
closed_and_last : (blocks : List Block) (b : Block) → innermost_of blocks ≡ Some b → closed blocks ++ b ∷ [] ≡ blocks
closed_and_last [] b e = absurd (cc)
closed_and_last (outer ∷ []) b e = (let same : outer ≡ b = cc in ap (λ (x : Block). x ∷ []) (sym same))
closed_and_last (outer ∷ inner ∷ more) b e = ap (λ (bs : List Block). outer ∷ bs) (closed_and_last (inner ∷ more) b e)

innermost_kept : (blocks : List Block) (b : Block) → innermost_of blocks ≡ Some b → b ≡ slice_index_or blocks (length blocks - 1) no_block
innermost_kept blocks b e =
    let some = some_open blocks b e in
    let there : slice_get blocks (length blocks - 1) ≡ Some (slice_index_or blocks (length blocks - 1) no_block) = slice_get-get_or blocks (length blocks - 1) no_block (omega arith) in
    let same : Some b ≡ Some (slice_index_or blocks (length blocks - 1) no_block) = sym e ∙ (innermost_of_is blocks ∙ there) in
    cc

-- with what its begin found, and the blocks around it, it is entered
pub entered_again : (deepest : ℕ) (blocks : List Block) (begin : Block) (rest : List Instruction) (registers : List (List ℕ)) (left : Opened) → innermost_of blocks ≡ Some begin → rest ≡ begin.rest → registers ≡ begin.registers
    → left ≡ record { deepest = deepest; blocks = closed blocks } → answered (record { rest = rest; registers = registers; blocks = left.blocks; deepest = left.deepest }) (Code 5) ≡ back_in deepest blocks (length blocks - 1)
entered_again deepest blocks begin rest registers left e code found around =
    let here = innermost_kept blocks begin e in
    let outer : left.blocks ≡ take (length blocks - 1) blocks = ap (λ (o : Opened). o.blocks) around ∙ closed_is blocks in
    let code' : rest ≡ (slice_index_or blocks (length blocks - 1) no_block).rest = code ∙ ap (λ (b : Block). b.rest) here in
    let found' : registers ≡ (slice_index_or blocks (length blocks - 1) no_block).registers = found ∙ ap (λ (b : Block). b.registers) here in
    let many : left.deepest ≡ deepest = ap (λ (o : Opened). o.deepest) around in
    λ i. answered (record { rest = code' i; registers = found' i; blocks = outer i; deepest = many i }) (Code 5)

full_still : (deepest : ℕ) (blocks : List Block) → 0 < deepest → deepest ≤ length blocks → may_open deepest blocks ≡ false
full_still deepest [] some many = absurd (omega arith)
full_still deepest (outer ∷ inner) some many = le-ltb (length (outer ∷ inner)) deepest many

-- one that has more blocks open than may be, and so no more calls, stays as it is
pub stays_stopped : (t : Thread) → 0 < depth_of t → 0 < t.deepest → (length t.blocks ≤ t.deepest → t.blocks ≡ []) → (t.deepest < length t.blocks → innermost_of t.blocks ≡ Some no_block) → (t.deepest < length t.blocks → (t.rest ≡ []) × (t.registers ≡ zeros))
    → t ≡ at_block t (depth_of t)
stays_stopped t deep some none beyond ended = by_count (nat_lt t.deepest (length t.blocks)) refl
  where
    stays : t.deepest < length t.blocks → t ≡ at_block t (depth_of t)
    stays many =
        let e = beyond many in
        let left : Thread = record t { rest = no_block.rest; registers = zeros; blocks = closed t.blocks } in
        let few = length-closed t.blocks in
        let full : may_open t.deepest (closed t.blocks) ≡ false = full_still t.deepest (closed t.blocks) some (omega arith) in
        let rest = (ended many).0 in
        let registers = (ended many).1 in
        let same : record t { rest = []; registers = zeros; blocks = closed t.blocks ++ no_block ∷ [] } ≡ t = λ i. record t { rest = sym rest i; registers = sym registers i; blocks = closed_and_last t.blocks no_block e i } in
        sym (sym (entered_again t.deepest t.blocks no_block no_block.rest zeros (record { deepest = t.deepest; blocks = closed t.blocks }) e refl refl refl)
        ∙ (ap (λ (b : Bool). if b then entered left R0 [] 5 else stopped left) full ∙ same))

    by_count : (b : Bool) → nat_lt t.deepest (length t.blocks) ≡ b → t ≡ at_block t (depth_of t)
    by_count true e = stays (ltb-true t.deepest (length t.blocks) e)
    by_count false e =
        absurd (let far = ltb-false t.deepest (length t.blocks) e in
        let empty = ap (λ (bs : List Block). length bs) (none far) in
        omega arith)
