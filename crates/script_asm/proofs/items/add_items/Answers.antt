use Rattle.std.proofs.Common.{None, refl}
use Rattle.script_asm.proofs.Common.{fields, ltb-true}
use Rattle.script_asm.proofs.LineItems.{end_items}
use Rattle.script_asm.proofs.items.add_items.Goals as goal

pub returns-clause-items : goal.returns-clause-items
returns-clause-items c = λ some. (end_items None c.loop-field.count (fields c.loop-field.rest.now) (fields c.args.rest.now) c.loop-field.invariant.ahead c.in_default.ensures.fields refl (ltb-true _ _ some)).0

pub returns-clause-few : goal.returns-clause-few
returns-clause-few c = λ some. c.loop-field.invariant.few (ltb-true _ _ some)
