use Rattle.std.proofs.Common.{◌≡◌, ℕ, List, All, length, None, refl, sym, ap, subst, ◌∙◌, inl, inr, arith, IsSome}
use Rattle.norec_accesses.proofs.Common.{All-from_recursion, AreBytes, CopyPair, MayPut, Piece, Row, WritesShared, accepted_sides, all_reserved, arena_copied, arena_shared, arena_within, chunks_in, chunks_of, direction_of, lookup, may_put_shared, put_chunks, range_pieces, reserved_all, reserved_for, reserved_shared, rows_before, target_refusal, target_within, with_slice, writes_copied, writes_shared}
use Rattle.norec_accesses.proofs.copies.deliver.Goals as goal

pub put-requires : goal.put-requires
put-requires c =
    let s = c.args.state.now in
    let k = c.args.copying in
    let none = subst (λ (pair : CopyPair). target_refusal s.words (length s.arena) pair k.to k.size ≡ None) c.in-In.is (accepted_sides s.words (length s.arena) k c.requires.served.accepted).0 in
    omega (arith, arena_within (length s.arena) k.to k.size none, c.deref.ensures.len, c.requires.served.sized)

pub put_range-requires : goal.put_range-requires
put_range-requires c =
    let s = c.args.state.now in
    let k = c.args.copying in
    let served = c.requires.served in
    let shared : WritesShared k.pair = elim c.in-Out.is [
      | inl out ↦ subst WritesShared (sym out.1) tt
      | inr within ↦ subst WritesShared (sym within.2) tt
    ] in
    let ps : List Piece = range_pieces k.to (chunks_in k) in
    let many : length c.deref-in-Out.result.now ≡ k.size = ap (length {A = ℕ}) c.deref-in-Out.ensures.value ∙ served.sized in
    let same : ps ≡ range_pieces k.to (chunks_of c.direction.result (length c.deref-in-Out.result.now)) = λ i. range_pieces k.to (chunks_of (sym c.direction.ensures i) (sym many i)) in
    let rows : s.frames.writes.rows ≡ reserved_all (rows_before s) ps = served.reserved ∙ reserved_shared k k.pair (rows_before s) shared in
    record {
      range = omega (arith, many, target_within s.words (length s.arena) k shared served.accepted, c.requires.words);
      room =
          subst (λ (qs : List Piece). All (λ (p : Piece). IsSome (lookup p.word s.frames.writes.rows)) qs) same
          (subst (λ (rs : List Row). All (λ (p : Piece). IsSome (lookup p.word rs)) ps) (sym rows)
          (All-from_recursion (λ (p : Piece). IsSome (lookup p.word (reserved_all (rows_before s) ps))) ps (all_reserved (rows_before s) ps)));
      may_put = subst (λ (qs : List Piece). All (λ (p : Piece). MayPut s.frames.writes p.word) qs) same (may_put_shared k k.pair s.frames.writes shared served.may_put);
    }

pub returns-in-In-clause-bytes : goal.returns-in-In-clause-bytes
returns-in-In-clause-bytes c = subst AreBytes c.deref.ensures.value c.put.ensures.fit

pub returns-in-In-clause-rows : goal.returns-in-In-clause-rows
returns-in-In-clause-rows c =
    let s = c.args.state.now in
    let k = c.args.copying in
    let rows : List Row = rows_before s in
    c.requires.served.reserved ∙ subst (λ (pair : CopyPair). reserved_for k pair rows ≡ writes_copied rows k pair s.buffer.items) (sym c.in-In.is) refl

pub returns-in-In-clause-arena : goal.returns-in-In-clause-arena
returns-in-In-clause-arena c =
    let s = c.args.state.now in
    let k = c.args.copying in
    c.put.ensures.bytes ∙ (ap (with_slice s.arena k.to) c.deref.ensures.value
    ∙ subst (λ (pair : CopyPair). with_slice s.arena k.to s.buffer.items ≡ arena_copied s.arena k pair s.buffer.items) (sym c.in-In.is) refl)

pub returns-in-Out-clause-rows : goal.returns-in-Out-clause-rows
returns-in-Out-clause-rows c =
    let s = c.args.state.now in
    let k = c.args.copying in
    let served = c.requires.served in
    let shared : WritesShared k.pair = elim c.in-Out.is [
      | inl out ↦ subst WritesShared (sym out.1) tt
      | inr within ↦ subst WritesShared (sym within.2) tt
    ] in
    let bytes : List ℕ = s.buffer.items in
    let rows : s.frames.writes.rows ≡ reserved_all (rows_before s) (range_pieces k.to (chunks_of (direction_of k) (length bytes))) =
    served.reserved ∙ (reserved_shared k k.pair (rows_before s) shared ∙ ap (λ (n : ℕ). reserved_all (rows_before s) (range_pieces k.to (chunks_of (direction_of k) n))) (sym served.sized)) in
    c.put_range.ensures.rows
    ∙ ((λ i. put_chunks (rows i) k.to (chunks_of (c.direction.ensures i) (length (c.deref-in-Out.ensures.value i))) (c.deref-in-Out.ensures.value i))
    ∙ sym (writes_shared k k.pair (rows_before s) bytes shared))

pub returns-in-Out-clause-arena : goal.returns-in-Out-clause-arena
returns-in-Out-clause-arena c =
    let s = c.args.state.now in
    let k = c.args.copying in
    let shared : WritesShared k.pair = elim c.in-Out.is [
      | inl out ↦ subst WritesShared (sym out.1) tt
      | inr within ↦ subst WritesShared (sym within.2) tt
    ] in
    sym (arena_shared k k.pair s.arena s.buffer.items shared)
