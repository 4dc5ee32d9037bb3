use Rattle.std.proofs.Common.{append_assoc, append-nil, refl}
use Rattle.picture_parts.specs.Lanes.{lane_text}
use Rattle.tx_history.proofs.TextPieces.{put_as}
use Rattle.picture_parts.proofs.lanes.put_thread.Goals as goal

pub returns : goal.returns
unfolding lane_text
returns g c = put_as _ _ _ _ _ c.put_pieces.ensures (simp (append_assoc, append-nil, c.from.ensures) refl)
