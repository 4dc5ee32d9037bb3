use Rattle.std.proofs.Common.{◌≡◌, inl, inr, [], ◌∷◌, List, sym, ap, ◌∙◌}
use Rattle.norec_accesses.proofs.Common.{Nest, Piece, cases_Bool, one_piece, pieces_of, put, put_all, reserved, reserved_all}
use Rattle.norec_accesses.proofs.KeptFrames.{only_writes}
use Rattle.norec_accesses.proofs.writes.put_next.Goals as goal

pub returns-in-Some-clause-rows : goal.returns-in-Some-clause-rows
returns-in-Some-clause-rows c done =
    let rows = c.args.frames.now.writes.rows in
    let p = c.in-Some.piece in
    let one : pieces_of c.args.at c.args.size ≡ p ∷ [] = one_piece c.args.at c.args.size p (sym c.in-Some.ensures.value) c.if-piece-size.true in
    ap (λ (n : Nest). n.writes.rows) (c.write_next.ensures.written done)
    ∙ ((λ i. put (reserved rows p.word) p.word (c.mask.ensures.value i) (c.scatter.ensures.value i))
    ∙ sym (ap (λ (ps : List Piece). put_all (reserved_all rows ps) ps c.args.bytes.now) one))

pub returns-in-Some-clause-kept : goal.returns-in-Some-clause-kept
returns-in-Some-clause-kept c = elim (cases_Bool c.write_next.result) [
  | inl done ↦ only_writes c.args.frames.now c.write_next.new.self _ (c.write_next.ensures.written done)
  | inr not ↦ only_writes c.args.frames.now c.write_next.new.self c.args.frames.now.writes (c.write_next.ensures.none not)
]
