use Rattle.std.proofs.Common.{arith}
use Rattle.run_commands.proofs.SentTexts.{sends_cut, sends_then, sends_typed}
use Rattle.run_commands.proofs.telling.close_history.Goals as goal

pub returns-in_err-put_left : goal.returns-in_err-put_left
returns-in_err-put_left g c = sends_cut _ c.from_residual.result (rw c.open_attempts.ensures at c.in_err-put_left.ensures) (grind arith)

pub returns : goal.returns
returns g c =
    sends_typed (λ p. (p.0, p.1.0, p.1.1))
    (sends_then (rw c.open_attempts.ensures at c.in_ok-put_left.ensures) (rw (c.clock.ensures.value, c.bytes.ensures) at c.finish.ensures))
