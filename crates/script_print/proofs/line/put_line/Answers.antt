use Rattle.std.proofs.Common.{◌≡◌, [], ◌∷◌, ◌++◌}
use Rattle.script_print.proofs.Texts.LineTexts.{field_put, line_put}
use Rattle.script_print.proofs.line.put_line.Goals as goal

pub loop-field-preserved : goal.loop-field-preserved
loop-field-preserved c =
    let space : c.push.new.self.items ≡ c.loop-field.text.items ++ 32 ∷ [] = c.in_ok-push.ensures.items in
    field_put c.args.text.now.items c.args.word.now c.args.fields.now c.loop-field.field-index _ c.loop-field.text.items c.push.new.self.items c.put_field-in-loop-field.new.text.items c.loop-field-test.true
    c.loop-field.invariant space (c.in_ok-put_field-2.ensures {u = tt})

pub returns : goal.returns
returns c =
    let feed : c.push-2.new.self.items ≡ c.loop-field.text.items ++ 10 ∷ [] = c.in_ok-push-2.ensures.items in
    line_put c.args.text.now.items c.args.word.now c.args.fields.now c.loop-field.field-index c.loop-field.text.items c.push-2.new.self.items c.loop-field-test.false c.loop-field.invariant feed
