use Rattle.std.proofs.Common.{◌≤◌, ◌-◌, length, take}
use Rattle.tx_history.proofs.Common.{Carries, encode_lower}
use Rattle.tx_history.proofs.page.Page.hex_in_chunks.Given as goal

abbrev pub invariant-loop-at : goal.invariant-loop-at
invariant-loop-at g l = record { carries : Carries g.W.Write.contents l.fn.self l.self (encode_lower (take l.at l.bytes)); far : l.at ≤ length l.bytes }

abbrev pub decreases-loop-at : goal.decreases-loop-at
decreases-loop-at g l = length l.bytes - l.at
