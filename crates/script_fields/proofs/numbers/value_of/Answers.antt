use Rattle.std.proofs.Common.{arith, sym}
use Rattle.script_fields.proofs.Digits.{all_read}
use Rattle.script_fields.proofs.numbers.value_of.Goals as goal

pub returns : goal.returns
returns c = sym (all_read c.loop-b.total c.loop-b.b-index c.args.field.now c.loop-b.invariant.0 (omega arith) c.loop-b.invariant.1)
