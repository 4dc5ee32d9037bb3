use Rattle.std.proofs.Common.{◌≡◌, ◌+◌, ◌<◌, ◌≤◌, None, length}
use Rattle.script_asm.proofs.Common.{MAX_ITEMS, fields, items_in, items_of, planned}
use Rattle.script_asm.proofs.LineItems.{after, tally}
use Rattle.script_asm.proofs.items.add_items.Given as goal

abbrev pub invariant-loop-field : goal.invariant-loop-field
invariant-loop-field l = record {
  ahead : after None l.count (tally (items_of (fields l.rest))) ≡ tally (items_of (fields l.fn.rest));
  small : l.count + length l.rest ≤ length l.fn.rest;
  planned : planned l.plan l.line (items_in (fields l.rest)) ≡ planned l.initial.plan l.line (items_in (fields l.fn.rest));
  few : 0 < l.count → length l.plan.items ≤ MAX_ITEMS;
}

abbrev pub decreases-loop-field : goal.decreases-loop-field
decreases-loop-field l = length l.rest
