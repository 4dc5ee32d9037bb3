use Rattle.std.proofs.Common.{◌≡◌, ◌≤◌, length, take}
use Rattle.itm_model.proofs.Common.{AreNewest}
use Rattle.itm_model.proofs.pieces.forget.Given as goal

abbrev pub invariant-loop-left : goal.invariant-loop-left
invariant-loop-left l = record {
  at : l.at ≤ l.left;
  left : l.left ≤ length l.journal;
  newest : AreNewest (take l.left l.journal) l.newest.items;
  count : length l.newest.items ≡ length l.fn.newest.items;
}

abbrev pub decreases-loop-left : goal.decreases-loop-left
decreases-loop-left l = l.left
