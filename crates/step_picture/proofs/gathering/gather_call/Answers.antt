use Rattle.std.proofs.Common.{◌<◌, Bool, refl, sym, subst, ◌∙◌}
use Rattle.step_picture.proofs.Common.{RowsOf, SoMany, both_of, call_falls, call_left_at, err_from_is_err_and, leaves_on, less_first, none_of, over_less, waits_still}
use Rattle.step_picture.proofs.GatheredMarks.{gathered_none, gathered_on, stopped_on}
use Rattle.step_picture.proofs.gathering.gather_call.Goals as goal

pub loop-goes_on-init : goal.loop-goes_on-init
loop-goes_on-init g c = record {
  gathers = gathered_none c.args.view.now (RowsOf g.P.Player c.args.thread) c.args.world.now c.args.marks.now.items (none_of g.P.Player c.args.thread c.args.world.now);
  actors = refl;
  waits = λ e. c.requires;
  less = less_first g.P.Player c.args.thread c.args.world.now c.requires;
}

pub gather_event-requires : goal.gather_event-requires
gather_event-requires g c = c.loop-goes_on.invariant.waits c.loop-goes_on-test.true

pub loop-goes_on-smaller : goal.loop-goes_on-smaller
loop-goes_on-smaller g c =
    subst (λ (on : Bool). call_left_at g.P.Player c.args.thread c.in_ok-goes_on.goes_on c.gather_event.new.world < call_left_at g.P.Player c.args.thread on c.loop-goes_on.world) (sym c.loop-goes_on-test.true)
    (call_falls g.P.Player c.args.thread c.in_ok-goes_on.goes_on c.loop-goes_on.world c.gather_event.new.world
    (c.loop-goes_on.invariant.waits c.loop-goes_on-test.true) c.gather_event.ensures.actors c.in_ok-goes_on.ensures.less)

pub loop-goes_on-preserved : goal.loop-goes_on-preserved
loop-goes_on-preserved g c =
    let before = c.loop-goes_on.invariant in
    let waits = before.waits c.loop-goes_on-test.true in
    let actors = c.gather_event.ensures.actors in
    record {
      gathers = gathered_on c.args.view.now (RowsOf g.P.Player c.args.thread) (SoMany g.P.Player c.args.thread 1) (RowsOf g.P.Player c.args.thread) c.args.world.now c.loop-goes_on.world c.gather_event.new.world _ _ _ (λ xs ys p q. both_of g.P.Player c.args.thread c.args.world.now c.loop-goes_on.world c.gather_event.new.world xs ys p q.0) before.gathers c.in_ok-goes_on.ensures.gathers;
      actors = actors ∙ before.actors;
      waits = waits_still g.P.Player c.args.thread c.in_ok-goes_on.goes_on c.loop-goes_on.world c.gather_event.new.world waits actors c.in_ok-goes_on.ensures.less;
      less = leaves_on g.P.Player c.args.thread c.loop-goes_on.goes_on c.in_ok-goes_on.goes_on c.args.world.now c.loop-goes_on.world c.gather_event.new.world c.loop-goes_on-test.true waits before.less c.in_ok-goes_on.ensures.less;
    }

pub returns-in_err-goes_on-clause-gathers : goal.returns-in_err-goes_on-clause-gathers
returns-in_err-goes_on-clause-gathers g c =
    let p = err_from_is_err_and c.from_residual.result c.from_residual.ensures.1 in
    rw p.1 (stopped_on c.args.view.now (RowsOf g.P.Player c.args.thread) (SoMany g.P.Player c.args.thread 1) (RowsOf g.P.Player c.args.thread) c.args.world.now c.loop-goes_on.world c.gather_event.new.world _ _ _ (λ xs ys p q. both_of g.P.Player c.args.thread c.args.world.now c.loop-goes_on.world c.gather_event.new.world xs ys p q.0) c.loop-goes_on.invariant.gathers c.in_err-goes_on.ensures.gathers)

pub returns-clause-gathers : goal.returns-clause-gathers
returns-clause-gathers g c = c.loop-goes_on.invariant.gathers

pub returns-clause-less : goal.returns-clause-less
returns-clause-less g c = over_less g.P.Player c.args.thread c.loop-goes_on.goes_on c.args.world.now c.loop-goes_on.world c.loop-goes_on-test.false c.loop-goes_on.invariant.less
