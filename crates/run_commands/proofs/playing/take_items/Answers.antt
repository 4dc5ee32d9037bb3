use Rattle.std.proofs.Common.{refl, ◌∙◌, arith}
use Rattle.run_commands.proofs.Common.{ItemBegins, ItemsBegin}
use Rattle.run_commands.proofs.Items.{items_begun, items_more, items_none}
use Rattle.run_commands.proofs.Plays.{fails_later, performs_stopped, sends_none, sends_on, sends_stopped}
use Rattle.run_commands.proofs.playing.take_items.Goals as goal

pub loop-item-init : goal.loop-item-init
loop-item-init g c = record {
  sends = sends_none c.args.world.now _ c.requires.fresh;
  leads = items_none g.P.Player c.args.world.now c.args.items.now;
  actors = refl;
}

pub loop-item-preserved : goal.loop-item-preserved
loop-item-preserved g c =
    let before = c.loop-item.invariant in
    let item = c.in_ok-take_item.ensures in
    record {
      sends = sends_on before.sends item.sends;
      leads = items_more g.P.Player _ _ _ c.args.items.now c.loop-item.item-index _ c.loop-item-test.true before.leads item.leads;
      actors = item.actors ∙ before.actors;
    }

pub returns-in_err-take_item : goal.returns-in_err-take_item
returns-in_err-take_item g c =
    let before = c.loop-item.invariant in
    let item = c.in_err-take_item.ensures in
    let sends = sends_stopped c.from_residual.result before.sends item.sends (grind arith) in
    performs_stopped g.P.Player sends c.from_residual.ensures.0
    (fails_later g.P.Player (ItemBegins g.P.Player _) (ItemsBegin g.P.Player c.args.items.now) c.args.world.now c.loop-item.world c.take_item.new.world _ _ _ c.requires.fresh before.sends.answer before.sends.adds
    (λ w l. items_begun g.P.Player c.args.world.now c.loop-item.world w c.args.items.now c.loop-item.item-index _ c.loop-item-test.true before.leads l)
    item.fails)
    (item.actors ∙ before.actors)
