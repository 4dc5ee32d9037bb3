use Rattle.std.proofs.Common.{sym, ◌∙◌, arith}
use Rattle.script_asm.proofs.Common.{fields}
use Rattle.script_asm.proofs.LineItems.{refused_items, stop_next, end_beyond, end_none, end_items}
use Rattle.script_fields.specs.declared.fault.FaultKind.TheVariants as kinds
use Rattle.script_asm.proofs.items.count_items.Goals as goal

pub returns-in-Err-Operand-clause-refused : goal.returns-in-Err-Operand-clause-refused
returns-in-Err-Operand-clause-refused c =
    refused_items (fields c.args.rest.now) kinds.Operand
    (sym c.loop-field.invariant.ahead
    ∙ stop_next c.loop-field.beyond c.loop-field.count (fields c.loop-field.rest.now) (fields c.in-Some.after.now) c.in-Some.field.now c.in-Some.ensures.fields
    (sym (rw c.in-Err-Operand.field-0-is at c.in-Err-Operand.ensures)))

pub returns-in-Some-beyond-clause-refused : goal.returns-in-Some-beyond-clause-refused
returns-in-Some-beyond-clause-refused c =
    end_beyond c.loop-field.beyond c.loop-field.count (fields c.loop-field.rest.now) (fields c.args.rest.now) c.in-Some-beyond.kind c.loop-field.invariant.ahead c.in_default.ensures.fields c.in-Some-beyond.is

pub returns-in-None-clause-refused : goal.returns-in-None-clause-refused
returns-in-None-clause-refused c =
    end_none c.loop-field.beyond c.loop-field.count (fields c.loop-field.rest.now) (fields c.args.rest.now) c.loop-field.invariant.ahead c.in_default.ensures.fields c.in-None.is c.if-count-eq0.true

pub returns-in-None-2-clause-items : goal.returns-in-None-2-clause-items
returns-in-None-2-clause-items c =
    (end_items c.loop-field.beyond c.loop-field.count (fields c.loop-field.rest.now) (fields c.args.rest.now) c.loop-field.invariant.ahead c.in_default.ensures.fields c.in-None.is (omega (arith, c.if-count-eq0.false))).0

pub returns-in-None-2-clause-count : goal.returns-in-None-2-clause-count
returns-in-None-2-clause-count c =
    (end_items c.loop-field.beyond c.loop-field.count (fields c.loop-field.rest.now) (fields c.args.rest.now) c.loop-field.invariant.ahead c.in_default.ensures.fields c.in-None.is (omega (arith, c.if-count-eq0.false))).1
