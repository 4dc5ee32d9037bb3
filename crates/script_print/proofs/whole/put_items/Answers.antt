use Rattle.script_print.proofs.Common.{item_fields}
use Rattle.script_print.proofs.Texts.LineTexts.{none_put, each_put}
use Rattle.script_print.proofs.whole.put_items.Goals as goal

pub loop-item-init : goal.loop-item-init
loop-item-init c = none_put c.args.text.now.items

pub loop-item-preserved : goal.loop-item-preserved
loop-item-preserved c =
    each_put item_fields c.args.text.now.items c.args.items.now c.loop-item.item-index _ c.loop-item.text.items c.put_item.new.text.items c.loop-item-test.true c.loop-item.invariant (c.in_ok-put_item.ensures {u = tt})
