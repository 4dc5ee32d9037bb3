use Rattle.std.proofs.Common.{List, take, get_or, refl, ap, sym, ◌∙◌, arith}
use Rattle.norec_accesses.proofs.Common.{Nest, Piece, put, put_all, put_all_more, some_words, take_all, take_more}
use Rattle.norec_accesses.proofs.KeptFrames.{kept_on, only_writes}
use Rattle.norec_accesses.proofs.writes.put_all.Goals as goal

pub loop-piece-init : goal.loop-piece-init
loop-piece-init c = record { rows = refl; others = λ word may. may; words = refl; kept = refl }

pub put-requires : goal.put-requires
put-requires c = record {
  room = some_words c.loop-piece.frames.writes.rows c.args.frames.now.writes.rows _ c.loop-piece.invariant.words (c.requires.room c.loop-piece.piece-index _ c.loop-piece-test.true);
  may_put = c.loop-piece.invariant.others _ (c.requires.may_put c.loop-piece.piece-index _ c.loop-piece-test.true);
}

pub loop-piece-preserved : goal.loop-piece-preserved
loop-piece-preserved c =
    let none : Piece = record { word = 0; first = 0; count = 0; at = 0 } in
    let p : Piece = get_or c.args.pieces.now c.loop-piece.piece-index none in
    let i = c.loop-piece.invariant in
    record {
      rows = ap (λ (n : Nest). n.writes.rows) c.put.ensures.new ∙ ((λ j. put (i.rows j) p.word (c.mask.ensures.value j) (c.scatter.ensures.value j))
          ∙ sym (ap (λ (ps : List Piece). put_all c.args.frames.now.writes.rows ps c.args.bytes.now) (take_more c.args.pieces.now c.loop-piece.piece-index none c.loop-piece-test.true)
          ∙ put_all_more c.args.frames.now.writes.rows (take c.loop-piece.piece-index c.args.pieces.now) p c.args.bytes.now));
      others = λ word may. c.put.ensures.others word (i.others word may);
      words = c.put.ensures.words ∙ i.words;
      kept = kept_on c.args.frames.now c.loop-piece.frames c.put.new.self i.kept (only_writes c.loop-piece.frames c.put.new.self _ c.put.ensures.new);
    }

pub returns-clause-rows : goal.returns-clause-rows
returns-clause-rows c = c.loop-piece.invariant.rows ∙ ap (λ (ps : List Piece). put_all c.args.frames.now.writes.rows ps c.args.bytes.now) (take_all c.loop-piece.piece-index c.args.pieces.now (omega (arith, c.loop-piece-test.false)))

pub returns-clause-bytes : goal.returns-clause-bytes
returns-clause-bytes c = λ i. (c.type_inv.bytes i).fits
