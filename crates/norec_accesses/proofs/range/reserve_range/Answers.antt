use Rattle.std.proofs.Common.{◌≡◌, ℕ, ◌+◌, ◌<◌, ◌++◌, List, All, drop, length, take, refl, ap, sym, subst, ◌∙◌, arith}
use Rattle.norec_accesses.proofs.Common.{All-append, All-nil, AreEmpty, Chunk, Frame, MayPut, Nest, Piece, Place, Row, chunks_before, chunks_of, cut-reserved_all, on_err, on_ok, pieces_of, range_pieces, range_pieces_more, reserved_all, reserved_all-append, take_all}
use Rattle.norec_accesses.proofs.KeptFrames.{kept_on, only_writes}
use Rattle.norec_accesses.proofs.range.reserve_range.Goals as goal

pub loop-number-init : goal.loop-number-init
loop-number-init c = record {
  rows = refl;
  may_put = All-nil (λ (p : Piece). MayPut c.args.frames.now.writes p.word);
  inner = refl;
  kept = refl;
}

pub reserve_all-requires : goal.reserve_all-requires
reserve_all-requires c = record { «open» = subst (λ (bs : List Frame). 0 < length bs) (sym (ap (λ (n : Nest). n.blocks) c.loop-number.invariant.kept)) c.requires.open }

pub cut-requires : goal.cut-requires
cut-requires c =
    let old = c.args.frames.now.writes.rows in
    let i = c.loop-number.invariant in
    let before = range_pieces c.args.to (chunks_before c.args.chunks.direction c.args.chunks.size c.loop-number.number) in
    let rows = on_err c.reserve_all.result c.reserve_all.ensures.err (sym c.is_err.ensures.value ∙ c.if-is_err.true) ∙ i.rows in
    record {
      empty = subst (λ (n : ℕ). AreEmpty (drop n c.reserve_all.new.frames.writes.rows)) (sym c.len-len.ensures.len)
          (subst (λ (xs : List Row). AreEmpty (drop (length old) xs)) (sym rows) (cut-reserved_all old before).0);
      inner = omega (arith, ap (λ (p : Place). p.rows) c.reserve_all.ensures.inner, ap (λ (p : Place). p.rows) i.inner, c.len-len.ensures.marks.inner.rows, c.len-len.ensures.len);
    }

pub returns-then-is_err-clause-err : goal.returns-then-is_err-clause-err
returns-then-is_err-clause-err c =
    let old = c.args.frames.now.writes.rows in
    let i = c.loop-number.invariant in
    let before = range_pieces c.args.to (chunks_before c.args.chunks.direction c.args.chunks.size c.loop-number.number) in
    let rows = on_err c.reserve_all.result c.reserve_all.ensures.err (sym c.is_err.ensures.value ∙ c.if-is_err.true) ∙ i.rows in
    ap (λ (n : Nest). n.writes.rows) c.cut.ensures.new ∙ ((λ j. take (c.len-len.ensures.len j) (rows j)) ∙ (cut-reserved_all old before).1)

pub returns-then-is_err-clause-kept : goal.returns-then-is_err-clause-kept
returns-then-is_err-clause-kept c =
    let still = kept_on c.args.frames.now c.loop-number.frames c.reserve_all.new.frames c.loop-number.invariant.kept c.reserve_all.ensures.kept in
    kept_on c.args.frames.now c.reserve_all.new.frames c.cut.new.self still (only_writes c.reserve_all.new.frames c.cut.new.self _ c.cut.ensures.new)

pub loop-number-preserved : goal.loop-number-preserved
loop-number-preserved c =
    let i = c.loop-number.invariant in
    let old = c.args.frames.now.writes.rows in
    let k : Chunk = c.in-Some.chunk in
    let before = chunks_before c.args.chunks.direction c.args.chunks.size c.loop-number.number in
    let here = pieces_of (c.args.to + k.at) k.size in
    let fine = sym c.is_err.ensures.value ∙ c.if-is_err.false in
    let pieces_are : c.deref.result.now ≡ here = c.deref.ensures.0 ∙ c.pieces-pieces.ensures.value in
    let more : range_pieces c.args.to (chunks_before c.args.chunks.direction c.args.chunks.size (c.loop-number.number + 1)) ≡ range_pieces c.args.to before ++ here =
    ap (range_pieces c.args.to) c.in-Some.ensures.next.next ∙ range_pieces_more c.args.to before k in
    let others = on_ok c.reserve_all.result c.reserve_all.ensures.others fine in
    let may = subst (All (λ (p : Piece). MayPut c.reserve_all.new.frames.writes p.word)) pieces_are (on_ok c.reserve_all.result c.reserve_all.ensures.may_put fine) in
    record {
      rows = on_ok c.reserve_all.result c.reserve_all.ensures.rows fine
          ∙ ((λ j. reserved_all (i.rows j) (pieces_are j)) ∙ sym (ap (reserved_all old) more ∙ reserved_all-append old (range_pieces c.args.to before) here));
      may_put = subst (All (λ (p : Piece). MayPut c.reserve_all.new.frames.writes p.word)) (sym more)
          (All-append (λ (p : Piece). MayPut c.reserve_all.new.frames.writes p.word) (range_pieces c.args.to before) here (λ j d l. others _ (i.may_put j d l)) may);
      inner = c.reserve_all.ensures.inner ∙ i.inner;
      kept = kept_on c.args.frames.now c.loop-number.frames c.reserve_all.new.frames i.kept c.reserve_all.ensures.kept;
    }

pub returns-clause-rows : goal.returns-clause-rows
returns-clause-rows c =
    let all = take_all c.loop-number.number (chunks_of c.args.chunks.direction c.args.chunks.size) (omega (arith, c.len-number-end.ensures.value, c.loop-number-test.false)) in
    c.loop-number.invariant.rows ∙ ap (λ (xs : List Chunk). reserved_all c.args.frames.now.writes.rows (range_pieces c.args.to xs)) all

pub returns-clause-may_put : goal.returns-clause-may_put
returns-clause-may_put c =
    let all = take_all c.loop-number.number (chunks_of c.args.chunks.direction c.args.chunks.size) (omega (arith, c.len-number-end.ensures.value, c.loop-number-test.false)) in
    subst (λ (xs : List Chunk). All (λ (p : Piece). MayPut c.loop-number.frames.writes p.word) (range_pieces c.args.to xs)) all c.loop-number.invariant.may_put
