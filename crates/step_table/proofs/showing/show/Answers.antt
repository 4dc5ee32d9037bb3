use Rattle.step_table.proofs.Common.{ScheduleFirst, ScheduleRows, err_from_is_err_and}
use Rattle.step_table.{proofs.RowLists.schedule_unbegun, proofs.ShownRows.begun_head, proofs.ShownRows.shows_table}
use Rattle.step_table.proofs.showing.show.Goals as goal

pub returns-in_err-put_head : goal.returns-in_err-put_head
returns-in_err-put_head g c =
    let p = err_from_is_err_and c.from_residual.result c.from_residual.ensures.1 in
    rw p.1 (begun_head c.args.view.now (ScheduleFirst g.P.Player c.args.items.now) c.args.world.now _ _ (schedule_unbegun g.P.Player c.args.world.now c.args.items.now) c.in_err-put_head.ensures)

pub returns : goal.returns
returns g c =
    shows_table c.args.view.now (ScheduleRows g.P.Player c.args.items.now) (ScheduleFirst g.P.Player c.args.items.now) c.args.world.now c.take_items.new.world _ _ _ c.take_items.result c.in_ok-put_head.ensures c.take_items.ensures
