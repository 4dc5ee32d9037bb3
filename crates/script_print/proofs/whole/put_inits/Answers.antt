use Rattle.script_print.proofs.Common.{init_fields}
use Rattle.script_print.proofs.Texts.LineTexts.{none_put, each_put}
use Rattle.script_print.proofs.whole.put_inits.Goals as goal

pub loop-init-init : goal.loop-init-init
loop-init-init c = none_put c.args.text.now.items

pub loop-init-preserved : goal.loop-init-preserved
loop-init-preserved c =
    each_put init_fields c.args.text.now.items c.args.inits.now c.loop-init.init-index _ c.loop-init.text.items c.put_init.new.text.items c.loop-init-test.true c.loop-init.invariant (rw c.init-item.is at (c.in_ok-put_init.ensures {u = tt}))
