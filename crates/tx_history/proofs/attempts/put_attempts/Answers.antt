use Rattle.tx_history.proofs.Common.{AttemptFits, attempt_lines}
use Rattle.tx_history.proofs.AppendedTexts.{spells_all, spells_next, spells_none}
use Rattle.tx_history.proofs.attempts.put_attempts.Goals as goal

pub loop-attempt-init : goal.loop-attempt-init
loop-attempt-init g c = spells_none attempt_lines AttemptFits _ c.args.attempts.now

pub loop-attempt-preserved : goal.loop-attempt-preserved
loop-attempt-preserved g c = spells_next attempt_lines AttemptFits _ _ _ c.args.attempts.now c.loop-attempt.attempt-index _ c.loop-attempt-test.true c.loop-attempt.invariant (rw c.attempt-item.is at c.put_attempt.ensures)

pub returns : goal.returns
returns g c = spells_all attempt_lines AttemptFits _ _ c.args.attempts.now c.loop-attempt.attempt-index c.loop-attempt.invariant c.loop-attempt-test.false
