use Rattle.std.proofs.Common.{append_assoc, append-nil}
use Rattle.picture_parts.specs.Looks.{front_text}
use Rattle.tx_history.proofs.TextPieces.{put_as}
use Rattle.picture_parts.proofs.looks.put_front.Goals as goal

pub returns : goal.returns
unfolding front_text
returns g c = put_as _ _ _ _ _ c.put_pieces.ensures (simp (append_assoc, append-nil))
