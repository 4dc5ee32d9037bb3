use Rattle.std.proofs.Common.{◌≡◌, ◌++◌, [], map, ◌∙◌, sym, subst}
use Rattle.script_print.proofs.Common.{IfOk-at_ok, SaysAgain, flat_map, init_fields, item_fields, limit_lines, lines_text, part_lines, printed}
use Rattle.script_print.proofs.Texts.LineTexts.{lines_put, printed_lines}
use Rattle.script_print.proofs.Printable.{IsPrintable}
use Rattle.script_print.proofs.Assembly.Programs.{assembled}
use Rattle.script_print.proofs.Texts.Programs.{printed_again}
use Rattle.script_print.proofs.whole.print.Goals as goal

pub returns : goal.returns
returns c =
    let p = c.args.program.now in
    let limits = limit_lines p in
    let inits = map init_fields p.memory.inits in
    let items = map item_fields p.schedule in
    let parts = flat_map part_lines p.parts in
    let first : c.put_limits.new.text.items ≡ lines_text limits = rw c.new-text.ensures.items at (c.in_ok-put_limits.ensures {u = tt}) in
    let of_inits : c.put_inits.new.text.items ≡ c.put_limits.new.text.items ++ lines_text inits = rw c.inits.ensures at (c.in_ok-put_inits.ensures {u = tt}) in
    let of_items : c.put_items.new.text.items ≡ c.put_inits.new.text.items ++ lines_text items = rw c.schedule.ensures.value at (c.in_ok-put_items.ensures {u = tt}) in
    let second = lines_put [] limits inits c.put_limits.new.text.items c.put_inits.new.text.items first of_inits in
    let third = lines_put [] (limits ++ inits) items c.put_inits.new.text.items c.put_items.new.text.items second of_items in
    let whole : c.put_sections.new.text.items ≡ printed p = lines_put [] (limits ++ inits ++ items) parts c.put_items.new.text.items c.put_sections.new.text.items third (c.in_ok-put_sections.ensures {u = tt}) ∙ sym (printed_lines p) in
    record { text = whole; again = subst (SaysAgain p) (sym whole) (λ text said fits. printed_again p (IfOk-at_ok IsPrintable said (assembled text)) fits) }
