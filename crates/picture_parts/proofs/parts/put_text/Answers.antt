use Rattle.std.proofs.Common.{append-nil}
use Rattle.tx_history.proofs.TextPieces.{put_as}
use Rattle.picture_parts.proofs.parts.put_text.Goals as goal

pub returns : goal.returns
returns g c = put_as _ _ _ _ _ c.put_pieces.ensures (append-nil _)
