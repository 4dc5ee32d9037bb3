use Rattle.script_print.proofs.Texts.LineTexts.{none_put, part_put}
use Rattle.script_print.proofs.whole.put_sections.Goals as goal

pub loop-index-init : goal.loop-index-init
loop-index-init c = none_put c.args.text.now.items

pub loop-index-preserved : goal.loop-index-preserved
loop-index-preserved c =
    part_put c.args.text.now.items c.args.program.now.parts c.loop-index.index _ c.loop-index.text.items c.put_section.new.text.items c.section-count.ensures c.loop-index.invariant (c.in_ok-put_section.ensures {u = tt})
