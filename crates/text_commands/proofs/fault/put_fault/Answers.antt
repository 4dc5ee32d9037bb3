use Rattle.std.proofs.Common.{append_assoc, append-nil}
use Rattle.text_commands.specs.Lines.{fault_line}
use Rattle.tx_history.proofs.TextPieces.{put_as}
use Rattle.text_commands.proofs.fault.put_fault.Goals as goal

pub returns : goal.returns
unfolding fault_line
returns g c = put_as _ _ _ _ _ c.put_pieces.ensures (simp (append_assoc, append-nil))
