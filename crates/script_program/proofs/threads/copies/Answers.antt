use Rattle.std.proofs.Common.{◌++◌, List, ap, ◌∙◌}
use Rattle.script_program.{specs.declared.instruction.Instruction.Instruction, proofs.Repeats.one_more}
use Rattle.script_program.proofs.threads.copies.Goals as goal

pub loop-preserved : goal.loop-preserved
loop-preserved c = c.in_ok-extend_from_slice.ensures.items ∙ ap (λ (l : List Instruction). l ++ c.args.group.now) c.loop.invariant ∙ one_more c.loop.counter c.args.group.now
