use Rattle.std.proofs.Common.{ℕ, replicate, ap, ◌∙◌, arith}
use Rattle.step_table.proofs.Common.{spelled, take-replicate}
use Rattle.step_table.proofs.Texts.{left_more, left_whole}
use Rattle.step_table.proofs.padding.blanks_beside.Goals as goal

pub loop-piece-preserved : goal.loop-piece-preserved
loop-piece-preserved c = left_more spelled c.args.pieces.now c.loop-piece.piece-index _ c.args.width c.loop-piece.left c.left_by-left.result c.loop-piece-test.true c.loop-piece.invariant c.left_by-left.ensures

pub returns : goal.returns
returns c =
    let left = left_whole spelled c.args.pieces.now c.loop-piece.piece-index c.args.width c.loop-piece.left c.loop-piece-test.false c.loop-piece.invariant in
    take-replicate c.loop-piece.left 26 32 (omega (arith, c.requires, left)) ∙ ap (λ (n : ℕ). replicate n 32) left
