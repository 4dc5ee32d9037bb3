use Rattle.std.proofs.Common.{◌≤◌, ◌≡◌, length, take}
use Rattle.itm_model.proofs.Common.{AreWithin, Restores}
use Rattle.itm_model.proofs.journal.unwind.Given as goal

abbrev pub invariant-loop-journal : goal.invariant-loop-journal
invariant-loop-journal l = record {
  at : l.at ≤ length l.journal.items;
  within : AreWithin (length l.memory.items) l.journal.items;
  same : l.journal.items ≡ take (length l.journal.items) l.fn.journal.items;
  restores : Restores l.at l.fn.journal.items l.fn.memory.items l.journal.items l.memory.items;
}

abbrev pub decreases-loop-journal : goal.decreases-loop-journal
decreases-loop-journal l = length l.journal.items
