use Rattle.std.proofs.Common.{◌+◌, length, ap, sym, ◌∙◌, arith}
use Rattle.tx_attempts.proofs.Common.{Ran}
use Rattle.tx_attempts.proofs.UndoneCounts.{before_few, next_early, next_late}
use Rattle.tx_attempts.proofs.undone.undone_before.Goals as goal
use Rattle.tx_attempts.proofs.undone.undone_before.Goals.{then-again-kept, else-again-kept}

pub overflow_add-count : goal.overflow_add-count
overflow_add-count c =
    let xs = c.args.restarts.now in
    let kept = c.args.kept in
    let i = c.loop-again.again-index in
    omega (arith, c.loop-again.invariant.count, ap (length {A = Ran}) c.as_slice.ensures, next_early xs kept i c.again-item.result c.again-item.is c.loop-again-test.true c.if-again-kept.true, before_few xs kept (i + 1), c.requires)

pub loop-again-preserved : goal.loop-again-preserved
loop-again-preserved c =
    let xs = c.args.restarts.now in
    let kept = c.args.kept in
    let i = c.loop-again.again-index in
    elim c.if-again-kept.branch [
      | then-again-kept w ↦ record { count = omega (arith, w.count-is, c.loop-again.invariant.count, ap (length {A = Ran}) w.as_slice.ensures, next_early xs kept i c.again-item.result c.again-item.is c.loop-again-test.true w.if-again-kept.true) }
      | else-again-kept w ↦ record { count = w.count-is ∙ (c.loop-again.invariant.count ∙ sym (next_late xs kept i c.again-item.result c.again-item.is c.loop-again-test.true w.if-again-kept.false)) }
    ]
