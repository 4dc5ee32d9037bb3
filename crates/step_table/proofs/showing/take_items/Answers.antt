use Rattle.std.proofs.Common.{◌≡◌, [], List, take, subst, refl, ◌∙◌, arith}
use Rattle.step_table.proofs.Common.{Appends-nil, Item, ScheduleRows, common_steps, err_from_is_err_and}
use Rattle.step_table.{proofs.RowLists.schedule_none, proofs.ShownItems.item_begun, proofs.ShownItems.item_written}
use Rattle.step_table.proofs.showing.take_items.Goals as goal

pub loop-item-init : goal.loop-item-init
loop-item-init g c = record {
  shows = ([], schedule_none g.P.Player c.args.world.now c.args.items.now, Appends-nil _);
  actors = refl;
}

pub loop-item-preserved : goal.loop-item-preserved
loop-item-preserved g c =
    let before = c.loop-item.invariant in
    record {
      shows = item_written g.P.Player c.args.view.now c.args.world.now c.loop-item.world c.take_item.new.world _ _ _ c.args.items.now c.loop-item.item-index _ c.loop-item-test.true before.shows c.in_ok-take_item.ensures.shows;
      actors = c.take_item.ensures.actors ∙ before.actors;
    }

pub returns-in_err-take_item : goal.returns-in_err-take_item
returns-in_err-take_item g c =
    let p = err_from_is_err_and c.from_residual.result c.from_residual.ensures.1 in
    rw p.1 (item_begun g.P.Player c.args.view.now c.args.world.now c.loop-item.world c.take_item.new.world _ _ _ c.args.items.now c.loop-item.item-index _ c.loop-item-test.true c.loop-item.invariant.shows c.in_err-take_item.ensures.shows)

pub returns : goal.returns
returns g c =
    let at_end = c.loop-item.invariant in
    let all : take c.loop-item.item-index c.args.items.now ≡ c.args.items.now = grind (arith, common_steps) in
    (at_end.shows.0, subst (λ (items : List Item). ScheduleRows g.P.Player items c.args.world.now at_end.shows.0 c.loop-item.world) all at_end.shows.1, at_end.shows.2)
