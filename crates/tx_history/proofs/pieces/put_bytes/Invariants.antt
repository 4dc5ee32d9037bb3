use Rattle.std.proofs.Common.{◌≤◌, ◌-◌, length, take}
use Rattle.tx_history.proofs.Common.{Appends}
use Rattle.tx_history.proofs.pieces.put_bytes.Given as goal

abbrev pub invariant-loop-at : goal.invariant-loop-at
invariant-loop-at g l = Appends (g.W.Write.contents l.fn.writer) (g.W.Write.contents l.writer) (take l.at l.bytes) × (l.at ≤ length l.bytes)

abbrev pub decreases-loop-at : goal.decreases-loop-at
decreases-loop-at g l = length l.bytes - l.at
