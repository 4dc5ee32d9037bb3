use Rattle.std.proofs.Common.{None}
use Rattle.run_commands.proofs.Common.{err_from_is_err_and}
use Rattle.run_commands.proofs.EndingLines.{lines_stop}
use Rattle.run_commands.proofs.endings.put_endings.Goals as goal

pub returns-in_err-put_ending : goal.returns-in_err-put_ending
returns-in_err-put_ending g c =
    let p = err_from_is_err_and c.from_residual.result c.from_residual.ensures.1 in
    rw p.1 (lines_stop _ _ _ c.args.endings.now c.loop-thread.thread None c.loop-thread-test.true c.loop-thread.invariant c.in_err-put_ending.ensures)
