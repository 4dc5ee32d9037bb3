use Rattle.std.proofs.Common.{◌≡◌, length, take, drop}
use Rattle.itm_model.proofs.Common.{AreHandedOn, handed_on}
use Rattle.itm_model.proofs.pieces.hand_on.Given as goal

abbrev pub invariant-loop-from : goal.invariant-loop-from
invariant-loop-from l = record {
  so_far : AreHandedOn l.to l.from l.journal.items l.newest.items;
  len : length l.journal.items ≡ length l.fn.journal.items;
  handed : handed_on l.top (take l.to l.journal.items) (drop l.from l.journal.items) ≡ handed_on l.top (take l.at l.fn.journal.items) (drop l.at l.fn.journal.items);
  count : length l.newest.items ≡ length l.fn.newest.items;
}
