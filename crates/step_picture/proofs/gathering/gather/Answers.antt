use Rattle.std.proofs.Common.{◌≡◌, List, take, subst, refl, ◌∙◌, arith}
use Rattle.step_picture.proofs.Common.{Item, ScheduleRows, common_steps, err_from_is_err_and, schedule_none}
use Rattle.step_picture.proofs.GatheredMarks.{gathered_none, item_gathered, item_stopped}
use Rattle.step_picture.proofs.gathering.gather.Goals as goal

pub loop-item-init : goal.loop-item-init
loop-item-init g c = record {
  gathers = gathered_none c.args.view.now (ScheduleRows g.P.Player (take 0 c.args.items.now)) c.args.world.now c.args.marks.now.items (schedule_none g.P.Player c.args.world.now c.args.items.now);
  actors = refl;
}

pub loop-item-preserved : goal.loop-item-preserved
loop-item-preserved g c =
    let before = c.loop-item.invariant in
    record {
      gathers = item_gathered g.P.Player c.args.view.now c.args.world.now c.loop-item.world c.gather_item.new.world _ _ _ c.args.items.now c.loop-item.item-index _ c.loop-item-test.true before.gathers c.in_ok-gather_item.ensures.gathers;
      actors = c.gather_item.ensures.actors ∙ before.actors;
    }

pub returns-in_err-gather_item : goal.returns-in_err-gather_item
returns-in_err-gather_item g c =
    let p = err_from_is_err_and c.from_residual.result c.from_residual.ensures.1 in
    rw p.1 (item_stopped g.P.Player c.args.view.now c.args.world.now c.loop-item.world c.gather_item.new.world _ _ _ c.args.items.now c.loop-item.item-index _ c.loop-item-test.true c.loop-item.invariant.gathers c.in_err-gather_item.ensures.gathers)

pub returns : goal.returns
returns g c =
    let at_end = c.loop-item.invariant in
    let all : take c.loop-item.item-index c.args.items.now ≡ c.args.items.now = grind (arith, common_steps) in
    (at_end.gathers.0, subst (λ (items : List Item). ScheduleRows g.P.Player items c.args.world.now at_end.gathers.0 c.loop-item.world) all at_end.gathers.1, at_end.gathers.2)
