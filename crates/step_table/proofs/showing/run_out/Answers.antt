use Rattle.std.proofs.Common.{[], refl, ◌∙◌, arith}
use Rattle.step_table.proofs.Common.{Appends-nil, RowsOf, err_from_is_err_and, no_more_first, no_more_on, run_falls}
use Rattle.step_table.{proofs.RowLists.both_of, proofs.RowLists.none_of, proofs.ShownRows.written_begun, proofs.ShownRows.written_on}
use Rattle.step_table.proofs.showing.run_out.Goals as goal

pub loop-alloc-init : goal.loop-alloc-init
loop-alloc-init g c = record {
  shows = ([], none_of g.P.Player c.args.thread c.args.world.now, Appends-nil _);
  actors = refl;
  less = no_more_first g.P.Player c.args.thread c.args.world.now;
}

pub loop-alloc-smaller : goal.loop-alloc-smaller
loop-alloc-smaller g c =
    run_falls g.P.Player c.args.thread c.args.world.now c.loop-alloc.world c.finish_call.new.world
    c.loop-alloc.invariant.actors c.finish_call.ensures.actors (c.is_waiting.ensures.waits c.loop-alloc-test.true) c.loop-alloc.invariant.less c.in_ok-finish_call.ensures.less

pub loop-alloc-preserved : goal.loop-alloc-preserved
loop-alloc-preserved g c =
    let waits = c.is_waiting.ensures.waits c.loop-alloc-test.true in
    let before = c.loop-alloc.invariant in
    record {
      shows = written_on c.args.view.now (RowsOf g.P.Player c.args.thread) (RowsOf g.P.Player c.args.thread) (RowsOf g.P.Player c.args.thread) c.args.world.now c.loop-alloc.world c.finish_call.new.world _ _ _ (both_of g.P.Player c.args.thread c.args.world.now c.loop-alloc.world c.finish_call.new.world) before.shows c.in_ok-finish_call.ensures.shows;
      actors = c.finish_call.ensures.actors ∙ before.actors;
      less = no_more_on g.P.Player c.args.thread c.args.world.now c.loop-alloc.world c.finish_call.new.world before.actors waits before.less c.in_ok-finish_call.ensures.less;
    }

pub returns-in_err-finish_call-clause-shows : goal.returns-in_err-finish_call-clause-shows
returns-in_err-finish_call-clause-shows g c =
    let p = err_from_is_err_and c.from_residual.result c.from_residual.ensures.1 in
    rw p.1 (written_begun c.args.view.now (RowsOf g.P.Player c.args.thread) (RowsOf g.P.Player c.args.thread) (RowsOf g.P.Player c.args.thread) c.args.world.now c.loop-alloc.world c.finish_call.new.world _ _ _ (both_of g.P.Player c.args.thread c.args.world.now c.loop-alloc.world c.finish_call.new.world) c.loop-alloc.invariant.shows c.in_err-finish_call.ensures.shows)

pub returns-clause-shows : goal.returns-clause-shows
returns-clause-shows g c =
    let at_end = c.loop-alloc.invariant in
    (at_end.shows.0, (at_end.shows.1, c.is_waiting.ensures.ended c.loop-alloc-test.false (omega (arith, c.requires, at_end.actors))), at_end.shows.2)
