use Rattle.std.proofs.Common.{arith}
use Rattle.run_commands.proofs.SentTexts.{sends_all, sends_next, sends_stopped, sends_unbegun}
use Rattle.run_commands.proofs.telling.put_attempts.Goals as goal

pub loop-attempt-init : goal.loop-attempt-init
loop-attempt-init g c = sends_unbegun g.W.Write.contents c.args.attempts.now _ c.requires

pub loop-attempt-preserved : goal.loop-attempt-preserved
loop-attempt-preserved g c = sends_next g.W.Write.contents c.args.attempts.now _ _ _ c.loop-attempt.attempt-index _ _ c.loop-attempt-test.true c.loop-attempt.invariant (rw c.attempt-item.is at c.in_ok-attempt.ensures)

pub returns-in_err-attempt : goal.returns-in_err-attempt
returns-in_err-attempt g c =
    sends_stopped g.W.Write.contents c.args.attempts.now _ _ _ c.loop-attempt.attempt-index _ _ c.from_residual.result c.loop-attempt-test.true c.loop-attempt.invariant (rw c.attempt-item.is at c.in_err-attempt.ensures) (grind arith)

pub returns : goal.returns
returns g c = sends_all g.W.Write.contents c.args.attempts.now _ _ c.loop-attempt.attempt-index c.loop-attempt-test.false c.loop-attempt.invariant
