use Rattle.std.proofs.Common.{arith}
use Rattle.run_commands.proofs.SentTexts.{sends_cut, sends_then}
use Rattle.run_commands.proofs.telling.open_history.Goals as goal

pub returns-in_err-open : goal.returns-in_err-open
returns-in_err-open g c = sends_cut _ c.from_residual.result (rw c.base.ensures at c.in_err-open.ensures) (grind arith)

pub returns : goal.returns
returns g c = sends_then (rw c.base.ensures at c.in_ok-open.ensures) c.put_ended.ensures
