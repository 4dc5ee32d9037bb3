use Rattle.step_picture.proofs.Common.{SoMany, err_from_is_err_and, is_row}
use Rattle.world_rules.proofs.Events.EndedAttempts.{ended_within}
use Rattle.step_picture.proofs.GatheredMarks.{gathered_one, stopped_one}
use Rattle.step_picture.proofs.gathering.gather_event.Goals as goal

pub came_of-came-requires : goal.came_of-came-requires
came_of-came-requires g c = ended_within g.P.Player c.args.world.now c.event_told-told.new.self c.args.thread c.ended-first.result c.requires c.event_told-told.ensures.goes c.ended-first.ensures.value

pub returns-in_err-keep-clause-gathers : goal.returns-in_err-keep-clause-gathers
returns-in_err-keep-clause-gathers g c =
    let p = err_from_is_err_and c.from_residual.result c.from_residual.ensures.1 in
    let one = is_row g.P.Player c.args.world.now c.event_told-told.new.self c.args.thread c.next_of-operation.result c.event_told-told.result.goes_on c.calls_of-had.result c.ended-first.result c.event_told-told.result.calls c.events-number.result c.clock-clock.result
    c.next_of-operation.ensures c.event_told-told.ensures.goes c.event_told-told.ensures.tells c.calls_of-had.ensures c.ended-first.ensures.value c.events-number.ensures.value c.clock-clock.ensures.value in
    rw p.1 (stopped_one c.args.view.now (SoMany g.P.Player c.args.thread 1) c.args.world.now c.event_told-told.new.self _ _ _ one c.in_err-keep.ensures.refused.0 c.in_err-keep.ensures.refused.1)

pub returns-clause-gathers : goal.returns-clause-gathers
returns-clause-gathers g c =
    let one = is_row g.P.Player c.args.world.now c.event_told-told.new.self c.args.thread c.next_of-operation.result c.event_told-told.result.goes_on c.calls_of-had.result c.ended-first.result c.event_told-told.result.calls c.events-number.result c.clock-clock.result
    c.next_of-operation.ensures c.event_told-told.ensures.goes c.event_told-told.ensures.tells c.calls_of-had.ensures c.ended-first.ensures.value c.events-number.ensures.value c.clock-clock.ensures.value in
    gathered_one c.args.view.now (SoMany g.P.Player c.args.thread 1) c.args.world.now c.event_told-told.new.self _ _ _ one c.is_some-in_attempt.result c.calls_after-calls.result c.came_of-came.result c.is_some-in_attempt.ensures c.calls_after-calls.ensures c.came_of-came.ensures c.in_ok-keep.ensures.kept
