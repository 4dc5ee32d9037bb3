use Rattle.std.proofs.Common.{◌≡◌, ℕ, ◌<◌, List, All, None, length, take, drop, get_or, IsSome, refl, ap, sym, subst, ◌∙◌, arith}
use Rattle.norec_accesses.proofs.Common.{All-more, All-nil, AreEmpty, Frame, MayPut, Nest, Piece, Place, Row, cut-reserved_all, lookup, not_ok, on_err, on_ok, reserved, reserved_all, reserved_all_more, rows_of, some_kept_all, take_all, take_more}
use Rattle.norec_accesses.proofs.KeptFrames.{kept_on, only_writes}
use Rattle.norec_accesses.proofs.writes.reserve_all.Goals as goal

pub loop-piece-init : goal.loop-piece-init
loop-piece-init c = record {
  rows = refl;
  may_put = All-nil (λ (p : Piece). MayPut c.args.frames.now.writes p.word);
  inner = refl;
  others = λ word may. may;
  kept = refl;
}

pub reserve-requires : goal.reserve-requires
reserve-requires c = subst (λ (bs : List Frame). 0 < length bs) (sym (ap (λ (n : Nest). n.blocks) c.loop-piece.invariant.kept)) c.requires.open

pub cut-requires : goal.cut-requires
cut-requires c =
    let old = c.args.frames.now.writes.rows in
    let i = c.loop-piece.invariant in
    let same = on_err c.reserve.result c.reserve.ensures.err (sym c.is_err.ensures.value ∙ c.if-is_err.true) in
    let rows = ap (λ (n : Nest). n.writes.rows) same ∙ i.rows in
    record {
      empty = subst (λ (n : ℕ). AreEmpty (drop n c.reserve.new.self.writes.rows)) (sym c.len-len.ensures.len)
          (subst (λ (xs : List Row). AreEmpty (drop (length old) xs)) (sym rows) (cut-reserved_all old (take c.loop-piece.piece-index c.args.pieces.now)).0);
      inner = omega (arith, ap (λ (n : Nest). n.writes.inner.rows) same, ap (λ (p : Place). p.rows) i.inner, c.len-len.ensures.marks.inner.rows, c.len-len.ensures.len);
    }

pub returns-then-is_err-clause-err : goal.returns-then-is_err-clause-err
returns-then-is_err-clause-err c =
    let old = c.args.frames.now.writes.rows in
    let i = c.loop-piece.invariant in
    let same = on_err c.reserve.result c.reserve.ensures.err (sym c.is_err.ensures.value ∙ c.if-is_err.true) in
    ap (λ (n : Nest). n.writes.rows) c.cut.ensures.new
    ∙ ((λ j. take (c.len-len.ensures.len j) ((ap (λ (n : Nest). n.writes.rows) same ∙ i.rows) j)) ∙ (cut-reserved_all old (take c.loop-piece.piece-index c.args.pieces.now)).1)

pub returns-then-is_err-clause-inner : goal.returns-then-is_err-clause-inner
returns-then-is_err-clause-inner c =
    let same = on_err c.reserve.result c.reserve.ensures.err (sym c.is_err.ensures.value ∙ c.if-is_err.true) in
    ap (λ (n : Nest). n.writes.inner) c.cut.ensures.new ∙ (ap (λ (n : Nest). n.writes.inner) same ∙ c.loop-piece.invariant.inner)

pub returns-then-is_err-clause-kept : goal.returns-then-is_err-clause-kept
returns-then-is_err-clause-kept c =
    let same = on_err c.reserve.result c.reserve.ensures.err (sym c.is_err.ensures.value ∙ c.if-is_err.true) in
    let still = kept_on c.args.frames.now c.loop-piece.frames c.reserve.new.self c.loop-piece.invariant.kept (only_writes c.loop-piece.frames c.reserve.new.self c.loop-piece.frames.writes same) in
    kept_on c.args.frames.now c.reserve.new.self c.cut.new.self still (only_writes c.reserve.new.self c.cut.new.self _ c.cut.ensures.new)

pub loop-piece-preserved : goal.loop-piece-preserved
loop-piece-preserved c =
    let none : Piece = record { word = 0; first = 0; count = 0; at = 0 } in
    let p : Piece = get_or c.args.pieces.now c.loop-piece.piece-index none in
    let i = c.loop-piece.invariant in
    let fine = sym c.is_err.ensures.value ∙ c.if-is_err.false in
    let ok = on_ok c.reserve.result c.reserve.ensures.ok fine in
    let ready = on_ok c.reserve.result c.reserve.ensures.ready fine in
    record {
      rows = ready.rows ∙ (ap (λ (rows : List Row). reserved rows p.word) i.rows
          ∙ sym (ap (reserved_all c.args.frames.now.writes.rows) (take_more c.args.pieces.now c.loop-piece.piece-index none c.loop-piece-test.true) ∙ reserved_all_more c.args.frames.now.writes.rows (take c.loop-piece.piece-index c.args.pieces.now) p));
      may_put = All-more (λ (q : Piece). MayPut c.reserve.new.self.writes q.word) c.args.pieces.now c.loop-piece.piece-index none c.loop-piece-test.true
          (λ j d l. c.reserve.ensures.others _ (i.may_put j d l)) ready.may_put;
      inner = ap (λ (n : Nest). n.writes.inner) ok ∙ i.inner;
      others = λ word may. c.reserve.ensures.others word (i.others word may);
      kept = kept_on c.args.frames.now c.loop-piece.frames c.reserve.new.self i.kept (only_writes c.loop-piece.frames c.reserve.new.self _ ok);
    }

pub returns-clause-rows : goal.returns-clause-rows
returns-clause-rows c = c.loop-piece.invariant.rows ∙ ap (reserved_all c.args.frames.now.writes.rows) (take_all c.loop-piece.piece-index c.args.pieces.now (omega (arith, c.loop-piece-test.false)))

pub returns-clause-may_put : goal.returns-clause-may_put
returns-clause-may_put c =
    subst (All (λ (p : Piece). MayPut c.loop-piece.frames.writes p.word)) (take_all c.loop-piece.piece-index c.args.pieces.now (omega (arith, c.loop-piece-test.false))) c.loop-piece.invariant.may_put

-- a piece that is refused memory has a row, and had none as the innermost block began
pub returns-then-is_err-clause-grows : goal.returns-then-is_err-clause-grows
returns-then-is_err-clause-grows c roomy =
    let none : Piece = record { word = 0; first = 0; count = 0; at = 0 } in
    let p : Piece = get_or c.args.pieces.now c.loop-piece.piece-index none in
    let i = c.loop-piece.invariant in
    let before = some_kept_all c.args.frames.now.writes.rows (take c.loop-piece.piece-index c.args.pieces.now) p.word (roomy.0 c.loop-piece.piece-index none c.loop-piece-test.true) in
    let here = subst (λ (rows : List Row). IsSome (lookup p.word rows)) (sym i.rows) before in
    let new = subst (λ (bs : List Frame). lookup p.word (rows_of bs) ≡ None) (sym (ap (λ (n : Nest). n.blocks) i.kept)) (roomy.1 c.loop-piece.piece-index none c.loop-piece-test.true) in
    absurd (not_ok c.reserve.result (sym c.is_err.ensures.value ∙ c.if-is_err.true) (c.reserve.ensures.has_row here new))
