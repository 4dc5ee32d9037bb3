use Rattle.step_table.proofs.Common.{SoMany, err_from_is_err_and, said}
use Rattle.world_rules.proofs.Events.EndedAttempts.{ended_within}
use Rattle.step_table.{proofs.EventRows.is_row, proofs.ShownRows.begun_one, proofs.ShownRows.written_one}
use Rattle.step_table.proofs.showing.take_event.Goals as goal

pub came_of-came-requires : goal.came_of-came-requires
came_of-came-requires g c = ended_within g.P.Player c.args.world.now c.event_told-told.new.self c.args.thread c.ended-first.result c.requires c.event_told-told.ensures.goes c.ended-first.ensures.value

pub returns-in_err-put_line-clause-shows : goal.returns-in_err-put_line-clause-shows
returns-in_err-put_line-clause-shows g c =
    let p = err_from_is_err_and c.from_residual.result c.from_residual.ensures.1 in
    let one = is_row g.P.Player c.args.world.now c.event_told-told.new.self c.args.thread c.next_of-operation.result c.event_told-told.result.goes_on c.calls_of-had.result c.ended-first.result c.event_told-told.result.calls c.events-number.result c.clock-clock.result
    c.next_of-operation.ensures c.event_told-told.ensures.goes c.event_told-told.ensures.tells c.calls_of-had.ensures c.ended-first.ensures.value c.events-number.ensures.value c.clock-clock.ensures.value in
    rw p.1 (begun_one c.args.view.now (SoMany g.P.Player c.args.thread 1) c.args.world.now c.event_told-told.new.self _ _ _ one (said c.came_of-came.result) c.came_of-came.ensures c.in_err-put_line.ensures)

pub returns-clause-shows : goal.returns-clause-shows
returns-clause-shows g c =
    let one = is_row g.P.Player c.args.world.now c.event_told-told.new.self c.args.thread c.next_of-operation.result c.event_told-told.result.goes_on c.calls_of-had.result c.ended-first.result c.event_told-told.result.calls c.events-number.result c.clock-clock.result
    c.next_of-operation.ensures c.event_told-told.ensures.goes c.event_told-told.ensures.tells c.calls_of-had.ensures c.ended-first.ensures.value c.events-number.ensures.value c.clock-clock.ensures.value in
    written_one c.args.view.now (SoMany g.P.Player c.args.thread 1) c.args.world.now c.event_told-told.new.self _ _ _ one (said c.came_of-came.result) c.came_of-came.ensures c.in_ok-put_line.ensures
