use Rattle.std.proofs.Common.{◌≡◌, List, IsSome, All, sym, ap, subst, ◌∙◌}
use Rattle.norec_accesses.proofs.Common.{All-from_recursion, AreRoomy, Piece, Row, all_reserved, either_way, lookup, put_all, reserved_all, rows_of}
use Rattle.norec_accesses.proofs.writes.put_pieces.Goals as goal

pub put_all-requires-clause-room : goal.put_all-requires-clause-room
put_all-requires-clause-room c =
    let before = c.args.frames.now.writes.rows in
    let ps = c.deref-2.result.now in
    let same : c.reserve_all.new.frames.writes.rows ≡ reserved_all before ps = c.in_ok-reserve_all.ensures.rows ∙ ap (reserved_all before) (c.deref.ensures.0 ∙ sym c.deref-2.ensures.0) in
    subst (λ (rows : List Row). All (λ (p : Piece). IsSome (lookup p.word rows)) ps) (sym same)
    (All-from_recursion (λ (p : Piece). IsSome (lookup p.word (reserved_all before ps))) ps (all_reserved before ps))

pub returns-clause-rows : goal.returns-clause-rows
returns-clause-rows c =
    let before = c.args.frames.now.writes.rows in
    let first = c.deref.ensures.0 ∙ c.pieces-pieces.ensures.value in
    let second = c.deref-2.ensures.0 ∙ c.pieces-pieces.ensures.value in
    c.put_all.ensures.rows ∙ (λ i. put_all ((c.in_ok-reserve_all.ensures.rows ∙ ap (reserved_all before) first) i) (second i) c.args.bytes.now)

pub returns-in_err-reserve_all-clause-grows : goal.returns-in_err-reserve_all-clause-grows
returns-in_err-reserve_all-clause-grows c =
    let f = c.args.frames.now in
    either_way c.from_residual.result (λ roomy. c.in_err-reserve_all.ensures.grows (subst (AreRoomy f.writes.rows (rows_of f.blocks)) (sym (c.deref.ensures.0 ∙ c.pieces-pieces.ensures.value)) roomy))
