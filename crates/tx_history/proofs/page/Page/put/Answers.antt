use Rattle.tx_history.proofs.Common.{PieceFits, spelled}
use Rattle.tx_history.proofs.AppendedTexts.{spells_all, spells_next, spells_none}
use Rattle.tx_history.proofs.page.Page.put.Goals as goal

pub loop-piece-init : goal.loop-piece-init
loop-piece-init g c = spells_none spelled PieceFits _ c.args.pieces.now

pub loop-piece-preserved : goal.loop-piece-preserved
loop-piece-preserved g c = spells_next spelled PieceFits _ _ _ c.args.pieces.now c.loop-piece.piece-index _ c.loop-piece-test.true c.loop-piece.invariant c.piece.ensures

pub returns : goal.returns
returns g c = spells_all spelled PieceFits _ _ c.args.pieces.now c.loop-piece.piece-index c.loop-piece.invariant c.loop-piece-test.false
