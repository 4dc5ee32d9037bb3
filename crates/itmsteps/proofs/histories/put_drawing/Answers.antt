use Rattle.itmsteps.proofs.Common.{err_from_is_err_and}
use Rattle.itmsteps.proofs.Written.{cut_written, flushed}
use Rattle.itmsteps.proofs.histories.put_drawing.Goals as goal

pub returns-in_err-put_history : goal.returns-in_err-put_history
returns-in_err-put_history g c =
    let p = err_from_is_err_and c.from_residual.result c.from_residual.ensures.1 in
    rw p.1 (cut_written _ _ _ c.in_err-put_history.ensures)

pub returns : goal.returns
returns g c = flushed _ _ _ _ c.flush.result c.in_ok-put_history.ensures c.flush.ensures.bytes
