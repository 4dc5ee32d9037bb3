use Rattle.std.proofs.Common.{◌+◌, ◌≤◌, [], refl, ◌∙◌, arith}
use Rattle.step_table.proofs.Common.{Appends-nil, ItemFirst, SoMany, Take, err_from_is_err_and}
use Rattle.step_table.{proofs.RowLists.both_many, proofs.RowLists.none_of, proofs.ShownRows.written_begun, proofs.ShownRows.written_on}
use Rattle.step_table.proofs.showing.take_events.Goals as goal

pub loop-taken-init : goal.loop-taken-init
loop-taken-init g c = record {
  shows = ([], (none_of g.P.Player c.args.thread c.args.world.now, refl), Appends-nil _);
  actors = refl;
}

pub loop-taken-preserved : goal.loop-taken-preserved
loop-taken-preserved g c =
    let before = c.loop-taken.invariant in
    record {
      shows = written_on c.args.view.now (SoMany g.P.Player c.args.thread c.loop-taken._taken) (SoMany g.P.Player c.args.thread 1) (SoMany g.P.Player c.args.thread (c.loop-taken._taken + 1)) c.args.world.now c.loop-taken.world c.take_event.new.world _ _ _ (both_many g.P.Player c.args.thread c.loop-taken._taken 1 c.args.world.now c.loop-taken.world c.take_event.new.world) before.shows c.in_ok-take_event.ensures.shows;
      actors = c.take_event.ensures.actors ∙ before.actors;
    }

pub returns-in_err-take_event-clause-shows : goal.returns-in_err-take_event-clause-shows
returns-in_err-take_event-clause-shows g c =
    let p = err_from_is_err_and c.from_residual.result c.from_residual.ensures.1 in
    let n = c.loop-taken._taken in
    let within : n + 1 ≤ c.args.count = omega arith in
    rw p.1 (written_begun c.args.view.now (SoMany g.P.Player c.args.thread n) (SoMany g.P.Player c.args.thread 1) (ItemFirst g.P.Player (Take c.args.thread c.args.count)) c.args.world.now c.loop-taken.world c.take_event.new.world _ _ _
    (λ xs ys p q. (let both = both_many g.P.Player c.args.thread n 1 c.args.world.now c.loop-taken.world c.take_event.new.world xs ys p q in (both.0, (let long = both.1 in omega (arith, long, within)))))
    c.loop-taken.invariant.shows c.in_err-take_event.ensures.shows)

pub returns-then-not-is_waiting-clause-shows : goal.returns-then-not-is_waiting-clause-shows
returns-then-not-is_waiting-clause-shows g c =
    let before = c.loop-taken.invariant in
    let ended = c.is_waiting.ensures.ended c.if-not-is_waiting.true (omega (arith, c.requires, before.actors)) in
    (before.shows.0, (before.shows.1.0, (let long = before.shows.1.1 in omega (arith, long)), λ less. ended), before.shows.2)

pub returns-clause-shows : goal.returns-clause-shows
returns-clause-shows g c =
    let at_end = c.loop-taken.invariant in
    let long = at_end.shows.1.1 in
    (at_end.shows.0, (at_end.shows.1.0, omega (arith, long), λ less. absurd (omega (arith, long, less))), at_end.shows.2)
