-- Open blocks of which the starts of the outermost ones are kept.
use Rattle.std.proofs.Common.{◌≡◌, ℕ, zero, suc, ◌+◌, ◌-◌, ◌<◌, ◌≤◌, List, [], ◌∷◌, ◌++◌, length, take, replicate, Some, nat_lt, refl, sym, ap, ◌∙◌, arith, append_assoc, length-append, sub-one, slice_get}
use Rattle.script_vm.proofs.Common.{Block, all_blocks, append-nil, closed, closed_is, innermost, innermost_of, le-ltb, length-closed, length-replicate, lt-ltb, may_open, no_block, replicate-append-replicate}

none_beyond : (kept : List Block) → all_blocks kept 0 ≡ kept
none_beyond kept = append-nil kept

pub all_length : (kept : List Block) (n : ℕ) → length (all_blocks kept n) ≡ length kept + n
all_length kept n = omega (arith, length-append kept (replicate n no_block), length-replicate n no_block)

-- ## One more

pub one_more_beyond : (kept : List Block) (n : ℕ) → all_blocks kept (n + 1) ≡ all_blocks kept n ++ no_block ∷ []
one_more_beyond kept n = ap (λ (l : List Block). kept ++ l) (sym (replicate-append-replicate n 1 no_block)) ∙ sym (append_assoc kept (replicate n no_block) (no_block ∷ []))

pub opened_kept : (kept : List Block) (n : ℕ) (new : Block) → n ≡ 0 → all_blocks (kept ++ new ∷ []) n ≡ all_blocks kept n ++ new ∷ []
opened_kept kept n new e = rw (e, none_beyond (kept ++ new ∷ []), none_beyond kept) refl

-- one more may be open where not all starts are kept
may_by_count : (deepest : ℕ) (blocks : List Block) → 0 < deepest → may_open deepest blocks ≡ nat_lt (length blocks) deepest
may_by_count deepest [] some = sym (lt-ltb 0 deepest some)
may_by_count deepest (outer ∷ inner) some = refl

pub has_room : (deepest : ℕ) (kept : List Block) (n : ℕ) → 0 < deepest → length kept ≤ deepest → (0 < n → length kept ≡ deepest) → nat_lt (length kept) deepest ≡ may_open deepest (all_blocks kept n)
has_room deepest kept zero some few full = ap (λ (bs : List Block). nat_lt (length bs) deepest) (sym (none_beyond kept)) ∙ sym (may_by_count deepest (all_blocks kept 0) some)
has_room deepest kept (suc n) some few full =
    let whole : length kept ≡ deepest = full (omega arith) in
    let long = all_length kept (suc n) in
    le-ltb (length kept) deepest (omega arith) ∙ sym (may_by_count deepest (all_blocks kept (suc n)) some ∙ le-ltb (length (all_blocks kept (suc n))) deepest (omega arith))

-- ## One less

closed-append : (blocks : List Block) (last : Block) → closed (blocks ++ last ∷ []) ≡ blocks
closed-append [] last = refl
closed-append (a ∷ []) last = refl
closed-append (a ∷ b ∷ more) last = ap (λ (l : List Block). a ∷ l) (closed-append (b ∷ more) last)

pub length_closed : (blocks : List Block) → length (closed blocks) ≡ length blocks - 1
length_closed blocks = length-closed blocks

pub closed_beyond : (kept : List Block) (n : ℕ) → 0 < n → all_blocks kept (n - 1) ≡ closed (all_blocks kept n)
closed_beyond kept n some =
    let e : n ≡ (n - 1) + 1 = omega arith in
    sym (ap (λ (m : ℕ). closed (all_blocks kept m)) e ∙ ap closed (one_more_beyond kept (n - 1)) ∙ closed-append (all_blocks kept (n - 1)) no_block)

pub closed_kept : (kept left : List Block) (n : ℕ) → n ≡ 0 → left ≡ take (length kept - 1) kept → all_blocks left n ≡ closed (all_blocks kept n)
closed_kept kept left n e l = rw (e, none_beyond left, none_beyond kept) (l ∙ sym (closed_is kept))

-- ## The ends

innermost-append : (outer : Block) (blocks : List Block) (last : Block) → innermost outer (blocks ++ last ∷ []) ≡ last
innermost-append outer [] last = refl
innermost-append outer (a ∷ more) last = innermost-append a more last

innermost_of-append : (blocks : List Block) (last : Block) → innermost_of (blocks ++ last ∷ []) ≡ Some last
innermost_of-append [] last = refl
innermost_of-append (a ∷ more) last = ap Some (innermost-append a more last)

innermost_is : (outer : Block) (blocks : List Block) → Some (innermost outer blocks) ≡ slice_get (outer ∷ blocks) (length blocks)
innermost_is outer [] = refl
innermost_is outer (a ∷ more) = innermost_is a more

pub innermost_of_is : (blocks : List Block) → innermost_of blocks ≡ slice_get blocks (length blocks - 1)
innermost_of_is [] = refl
innermost_of_is (a ∷ more) = innermost_is a more ∙ rw sub-one refl

pub innermost_kept : (kept : List Block) (n : ℕ) → n ≡ 0 → innermost_of (all_blocks kept n) ≡ slice_get kept (length kept - 1)
innermost_kept kept n none = ap (λ (m : ℕ). innermost_of (all_blocks kept m)) none ∙ ap innermost_of (none_beyond kept) ∙ innermost_of_is kept

pub innermost_beyond : (kept : List Block) (n : ℕ) → 0 < n → innermost_of (all_blocks kept n) ≡ Some no_block
innermost_beyond kept n some =
    let e : n ≡ (n - 1) + 1 = omega arith in
    ap (λ (m : ℕ). innermost_of (all_blocks kept m)) e ∙ ap innermost_of (one_more_beyond kept (n - 1)) ∙ innermost_of-append (all_blocks kept (n - 1)) no_block
