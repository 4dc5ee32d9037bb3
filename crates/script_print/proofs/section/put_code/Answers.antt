use Rattle.script_print.proofs.Common.{instruction_fields}
use Rattle.script_print.proofs.Texts.LineTexts.{none_put, each_put}
use Rattle.script_print.proofs.section.put_code.Goals as goal

pub loop-instruction-init : goal.loop-instruction-init
loop-instruction-init c = none_put c.args.text.now.items

pub loop-instruction-preserved : goal.loop-instruction-preserved
loop-instruction-preserved c =
    each_put instruction_fields c.args.text.now.items c.args.code.now c.loop-instruction.instruction-index _ c.loop-instruction.text.items c.put_instruction.new.text.items c.loop-instruction-test.true c.loop-instruction.invariant (c.in_ok-put_instruction.ensures {u = tt})
