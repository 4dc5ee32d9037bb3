use Rattle.std.proofs.Common.{append_assoc, append-nil}
use Rattle.itmsteps.specs.Faults.{fault_text}
use Rattle.tx_history.proofs.TextPieces.{put_as}
use Rattle.itmsteps.proofs.failure.put_fault.Goals as goal

pub returns : goal.returns
unfolding fault_text
returns g c = put_as _ _ _ _ _ c.put_pieces.ensures (simp (append_assoc, append-nil))
