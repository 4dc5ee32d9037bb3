use Rattle.std.proofs.Common.{◌<◌, [], Bool, refl, sym, subst, ◌∙◌}
use Rattle.step_table.proofs.Common.{Appends-nil, RowsOf, SoMany, call_falls, call_left_at, err_from_is_err_and, leaves_on, over_less, waits_still}
use Rattle.step_table.proofs.EventRows.{less_first}
use Rattle.step_table.proofs.RowLists.{both_of, none_of}
use Rattle.step_table.proofs.ShownRows.{written_begun, written_on}
use Rattle.step_table.proofs.showing.finish_call.Goals as goal

pub loop-goes_on-init : goal.loop-goes_on-init
loop-goes_on-init g c = record {
  shows = ([], none_of g.P.Player c.args.thread c.args.world.now, Appends-nil _);
  actors = refl;
  waits = λ e. c.requires;
  less = less_first g.P.Player c.args.thread c.args.world.now c.requires;
}

pub take_event-requires : goal.take_event-requires
take_event-requires g c = c.loop-goes_on.invariant.waits c.loop-goes_on-test.true

pub loop-goes_on-smaller : goal.loop-goes_on-smaller
loop-goes_on-smaller g c =
    subst (λ (on : Bool). call_left_at g.P.Player c.args.thread c.in_ok-goes_on.goes_on c.take_event.new.world < call_left_at g.P.Player c.args.thread on c.loop-goes_on.world) (sym c.loop-goes_on-test.true)
    (call_falls g.P.Player c.args.thread c.in_ok-goes_on.goes_on c.loop-goes_on.world c.take_event.new.world
    (c.loop-goes_on.invariant.waits c.loop-goes_on-test.true) c.take_event.ensures.actors c.in_ok-goes_on.ensures.less)

pub loop-goes_on-preserved : goal.loop-goes_on-preserved
loop-goes_on-preserved g c =
    let before = c.loop-goes_on.invariant in
    let waits = before.waits c.loop-goes_on-test.true in
    let actors = c.take_event.ensures.actors in
    record {
      shows = written_on c.args.view.now (RowsOf g.P.Player c.args.thread) (SoMany g.P.Player c.args.thread 1) (RowsOf g.P.Player c.args.thread) c.args.world.now c.loop-goes_on.world c.take_event.new.world _ _ _ (λ xs ys p q. both_of g.P.Player c.args.thread c.args.world.now c.loop-goes_on.world c.take_event.new.world xs ys p q.0) before.shows c.in_ok-goes_on.ensures.shows;
      actors = actors ∙ before.actors;
      waits = waits_still g.P.Player c.args.thread c.in_ok-goes_on.goes_on c.loop-goes_on.world c.take_event.new.world waits actors c.in_ok-goes_on.ensures.less;
      less = leaves_on g.P.Player c.args.thread c.loop-goes_on.goes_on c.in_ok-goes_on.goes_on c.args.world.now c.loop-goes_on.world c.take_event.new.world c.loop-goes_on-test.true waits before.less c.in_ok-goes_on.ensures.less;
    }

pub returns-in_err-goes_on-clause-shows : goal.returns-in_err-goes_on-clause-shows
returns-in_err-goes_on-clause-shows g c =
    let p = err_from_is_err_and c.from_residual.result c.from_residual.ensures.1 in
    rw p.1 (written_begun c.args.view.now (RowsOf g.P.Player c.args.thread) (SoMany g.P.Player c.args.thread 1) (RowsOf g.P.Player c.args.thread) c.args.world.now c.loop-goes_on.world c.take_event.new.world _ _ _ (λ xs ys p q. both_of g.P.Player c.args.thread c.args.world.now c.loop-goes_on.world c.take_event.new.world xs ys p q.0) c.loop-goes_on.invariant.shows c.in_err-goes_on.ensures.shows)

pub returns-clause-shows : goal.returns-clause-shows
returns-clause-shows g c = c.loop-goes_on.invariant.shows

pub returns-clause-less : goal.returns-clause-less
returns-clause-less g c = over_less g.P.Player c.args.thread c.loop-goes_on.goes_on c.args.world.now c.loop-goes_on.world c.loop-goes_on-test.false c.loop-goes_on.invariant.less
