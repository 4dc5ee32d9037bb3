use Rattle.std.proofs.Common.{refl, ◌∙◌, arith}
use Rattle.step_picture.proofs.Common.{RowsOf, both_of, err_from_is_err_and, no_more_first, no_more_on, none_of, run_falls}
use Rattle.step_picture.proofs.GatheredMarks.{gathered_none, gathered_on, stopped_on}
use Rattle.step_picture.proofs.gathering.gather_out.Goals as goal

pub loop-alloc-init : goal.loop-alloc-init
loop-alloc-init g c = record {
  gathers = gathered_none c.args.view.now (RowsOf g.P.Player c.args.thread) c.args.world.now c.args.marks.now.items (none_of g.P.Player c.args.thread c.args.world.now);
  actors = refl;
  less = no_more_first g.P.Player c.args.thread c.args.world.now;
}

pub loop-alloc-smaller : goal.loop-alloc-smaller
loop-alloc-smaller g c =
    run_falls g.P.Player c.args.thread c.args.world.now c.loop-alloc.world c.gather_call.new.world
    c.loop-alloc.invariant.actors c.gather_call.ensures.actors (c.is_waiting.ensures.waits c.loop-alloc-test.true) c.loop-alloc.invariant.less c.in_ok-gather_call.ensures.less

pub loop-alloc-preserved : goal.loop-alloc-preserved
loop-alloc-preserved g c =
    let waits = c.is_waiting.ensures.waits c.loop-alloc-test.true in
    let before = c.loop-alloc.invariant in
    record {
      gathers = gathered_on c.args.view.now (RowsOf g.P.Player c.args.thread) (RowsOf g.P.Player c.args.thread) (RowsOf g.P.Player c.args.thread) c.args.world.now c.loop-alloc.world c.gather_call.new.world _ _ _ (both_of g.P.Player c.args.thread c.args.world.now c.loop-alloc.world c.gather_call.new.world) before.gathers c.in_ok-gather_call.ensures.gathers;
      actors = c.gather_call.ensures.actors ∙ before.actors;
      less = no_more_on g.P.Player c.args.thread c.args.world.now c.loop-alloc.world c.gather_call.new.world before.actors waits before.less c.in_ok-gather_call.ensures.less;
    }

pub returns-in_err-gather_call-clause-gathers : goal.returns-in_err-gather_call-clause-gathers
returns-in_err-gather_call-clause-gathers g c =
    let p = err_from_is_err_and c.from_residual.result c.from_residual.ensures.1 in
    rw p.1 (stopped_on c.args.view.now (RowsOf g.P.Player c.args.thread) (RowsOf g.P.Player c.args.thread) (RowsOf g.P.Player c.args.thread) c.args.world.now c.loop-alloc.world c.gather_call.new.world _ _ _ (both_of g.P.Player c.args.thread c.args.world.now c.loop-alloc.world c.gather_call.new.world) c.loop-alloc.invariant.gathers c.in_err-gather_call.ensures.gathers)

pub returns-clause-gathers : goal.returns-clause-gathers
returns-clause-gathers g c =
    let at_end = c.loop-alloc.invariant in
    (at_end.gathers.0, (at_end.gathers.1, c.is_waiting.ensures.ended c.loop-alloc-test.false (omega (arith, c.requires, at_end.actors))), at_end.gathers.2)
