use Rattle.std.proofs.Common.{◌≡◌, Option, Some, slice_get, ap, sym, ◌∙◌, slice_index}
use Rattle.norec_accesses.proofs.Common.{AllFit-at, Row, got_at, index_of, laid, lookup_fits, overlay, part_of}
use Rattle.norec_accesses.proofs.reads.covered.Goals as goal

pub returns-in-Some-clause-part : goal.returns-in-Some-clause-part
returns-in-Some-clause-part c m fit within =
    let word = c.args.piece.word in
    let row = c.in-Some.row in
    let v = slice_index m word in
    let here : slice_get (overlay m c.args.state.now.frames.writes.rows) word ≡ Some (laid c.get.result v) = c.get.ensures.word m v (got_at m word within) in
    let now : slice_index (overlay m c.args.state.now.frames.writes.rows) word ≡ laid (Some row) v = index_of (overlay m c.args.state.now.frames.writes.rows) word (laid c.get.result v) here ∙ ap (λ (o : Option Row). laid o v) c.in-Some.is in
    ap (part_of c.args.piece) now ∙ c.is_within.ensures.part c.if-is_within.true v row.value (AllFit-at m word fit)
    (lookup_fits c.args.state.now.frames.writes.rows word row c.requires.rows.fit (sym c.get.ensures.row ∙ c.in-Some.is))
