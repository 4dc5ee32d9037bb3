use Rattle.std.proofs.Common.{◌≡◌, ◌++◌, map, take}
use Rattle.script_print.proofs.Common.{item_fields, lines_text}
use Rattle.script_print.proofs.whole.put_items.Given as goal

abbrev pub invariant-loop-item : goal.invariant-loop-item
invariant-loop-item l = l.text.items ≡ l.fn.text.items ++ lines_text (map item_fields (take l.item-index l.items))
