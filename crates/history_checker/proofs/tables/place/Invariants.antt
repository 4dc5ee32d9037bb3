use Rattle.std.proofs.Common.{◌≡◌, [], take, drop}
use Rattle.history_checker.proofs.Common.{AreSlots, position_fault}
use Rattle.history_checker.proofs.tables.place.Given as goal

abbrev pub invariant-loop-i : goal.invariant-loop-i
invariant-loop-i l = record {
  fault : position_fault l.count [] l.attempts ≡ position_fault l.count (take l.i l.attempts) (drop l.i l.attempts);
  slots : AreSlots l.count (take l.i l.attempts) l.slots.items;
}
