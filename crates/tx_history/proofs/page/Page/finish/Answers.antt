use Rattle.std.proofs.Common.{sym, arith}
use Rattle.tx_history.proofs.Streams.{sends_grown, sends_refused}
use Rattle.tx_history.proofs.page.Page.finish.Goals as goal

pub returns-in_err-write_result : goal.returns-in_err-write_result
returns-in_err-write_result g c = sends_refused _ c.from_residual.result c.in_err-write_result.field-0.0 _ _ (grind arith) (grind arith)

pub returns : goal.returns
returns g c =
    sends_grown _ _ _ _ _ _ (sym c.in_ok-write_result.ensures) c.begin.ensures.same c.begin.ensures.kept c.begin.ensures.empty c.write_last.ensures.empty c.write_last.ensures.spells c.write_result-2.ensures
