use Rattle.std.proofs.Common.{arith, take}
use Rattle.std.proofs.lemmas.List.{length-take}
use Rattle.text_commands.proofs.ReadTexts.{few_more}
use Rattle.text_commands.proofs.input.read_up_to.Goals as goal

pub returns-in_err-extend_from_slice-clause-few : goal.returns-in_err-extend_from_slice-clause-few
returns-in_err-extend_from_slice-clause-few g c =
    few_more _ _ _ c.loop-buffer.text.items (take c.in-Ok.n c.read.new.buf) c.args.limit c.loop-buffer.invariant.0 c.in-Ok.ensures.bytes.0 (omega (arith, length-take c.in-Ok.n c.read.new.buf))
