use Rattle.std.proofs.Common.{[], ◌∷◌, map}
use Rattle.script_print.proofs.Common.{instruction_fields, on_ok_weaker, thread_fields}
use Rattle.script_print.proofs.Texts.LineTexts.{lines_put}
use Rattle.script_print.proofs.section.put_section.Goals as goal

pub returns : goal.returns
returns c =
    on_ok_weaker c.put_code.result (lines_put c.args.text.now.items (thread_fields c.args.count ∷ []) (map instruction_fields c.args.code.now) c.put_thread.new.text.items c.put_code.new.text.items (c.in_ok-put_thread.ensures {u = tt}))
    c.put_code.ensures
