use Rattle.std.proofs.Common.{◌≡◌, ◌++◌, map, take}
use Rattle.script_print.proofs.Common.{init_fields, lines_text}
use Rattle.script_print.proofs.whole.put_inits.Given as goal

abbrev pub invariant-loop-init : goal.invariant-loop-init
invariant-loop-init l = l.text.items ≡ l.fn.text.items ++ lines_text (map init_fields (take l.init-index l.inits))
