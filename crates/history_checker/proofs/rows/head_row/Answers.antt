use Rattle.std.proofs.Common.{◌+◌, ap, ◌∙◌, arith}
use Rattle.history_checker.proofs.Common.{Attempt, line_count, told_row}
use Rattle.history_checker.proofs.Steps.Ends.{row_next, row_last}
use Rattle.history_checker.proofs.rows.head_row.Goals as goal

pub loop-i-preserved : goal.loop-i-preserved
loop-i-preserved c = record {
  row = c.after-row.ensures ∙ (ap (λ (a : Attempt). told_row (c.loop-i.row + line_count a)) c.index-attempts-i.is ∙ row_next c.args.version c.args.attempts.now c.loop-i.i c.index-attempts-i.result c.loop-i.row c.loop-i-test.true c.loop-i.invariant.row);
  within = omega (arith, c.loop-i.invariant.within, c.if-i-place.false);
}

pub returns : goal.returns
returns c = c.loop-i.invariant.row ∙ ap told_row (row_last c.args.version c.args.attempts.now c.loop-i.i c.args.place c.loop-i-test.false c.loop-i.invariant.within)
