use Rattle.std.proofs.Common.{◌≡◌, ◌∷◌, ◌++◌, map, take}
use Rattle.script_print.proofs.Common.{field_text, joined}
use Rattle.script_print.proofs.line.put_line.Given as goal

abbrev pub invariant-loop-field : goal.invariant-loop-field
invariant-loop-field l = l.text.items ≡ l.fn.text.items ++ joined (l.word ∷ map field_text (take l.field-index l.fields))
