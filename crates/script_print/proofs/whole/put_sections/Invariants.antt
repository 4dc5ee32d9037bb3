use Rattle.std.proofs.Common.{◌≡◌, ◌++◌, take}
use Rattle.script_print.proofs.Common.{flat_map, lines_text, part_lines}
use Rattle.script_print.proofs.whole.put_sections.Given as goal

abbrev pub invariant-loop-index : goal.invariant-loop-index
invariant-loop-index l = l.text.items ≡ l.fn.text.items ++ lines_text (flat_map part_lines (take l.index l.program.parts))
