use Rattle.std.proofs.Common.{Ok, ap, sym, ◌∙◌}
use Rattle.script_fields.proofs.Digits.{one_digit}
use Rattle.script_fields.proofs.numbers.number.Goals as goal

pub returns-then-field-le57 : goal.returns-then-field-le57
returns-then-field-le57 c = ap Ok c.from.ensures ∙ sym (one_digit c.args.field.now c.if-field-eq1.true c.if-field-ge48.true c.if-field-le57.true)
