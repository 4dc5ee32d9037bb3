use Rattle.std.proofs.Common.{◌≡◌, ◌++◌, map, take}
use Rattle.script_print.proofs.Common.{instruction_fields, lines_text}
use Rattle.script_print.proofs.section.put_code.Given as goal

abbrev pub invariant-loop-instruction : goal.invariant-loop-instruction
invariant-loop-instruction l = l.text.items ≡ l.fn.text.items ++ lines_text (map instruction_fields (take l.instruction-index l.code))
