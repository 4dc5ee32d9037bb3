use Rattle.itmsteps.proofs.Common.{ScheduleFirst, ScheduleRows, err_from_is_err_and, schedule_whole, thread_rules}
use Rattle.step_table.proofs.ShownRows.{shows_flushed}
use Rattle.itmsteps.proofs.showing.put_table.Goals as goal

pub returns-in_err-show : goal.returns-in_err-show
returns-in_err-show g c =
    let p = err_from_is_err_and c.from_residual.result c.from_residual.ensures.1 in
    rw p.1 c.in_err-show.ensures

pub returns : goal.returns
returns g c =
    shows_flushed (ScheduleRows thread_rules c.args.items.now) (ScheduleFirst thread_rules c.args.items.now) c.args.view.now c.args.world.now c.show.new.world _ _ _ c.in_ok-show.field-0 c.flush.result
    (schedule_whole thread_rules c.args.world.now c.show.new.world c.args.items.now) c.in_ok-show.ensures c.flush.ensures.bytes
