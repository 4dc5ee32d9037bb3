use Rattle.std.proofs.Common.{◌≡◌, ◌+◌, ◌≤◌, length}
use Rattle.script_asm.proofs.Common.{fields, items_of}
use Rattle.script_asm.proofs.LineItems.{tally, after}
use Rattle.script_asm.proofs.items.count_items.Given as goal

abbrev pub invariant-loop-field : goal.invariant-loop-field
invariant-loop-field l = record {
  ahead : after l.beyond l.count (tally (items_of (fields l.rest))) ≡ tally (items_of (fields l.fn.rest));
  small : l.count + length l.rest ≤ length l.fn.rest;
}

abbrev pub decreases-loop-field : goal.decreases-loop-field
decreases-loop-field l = length l.rest
