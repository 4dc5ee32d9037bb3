use Rattle.std.proofs.Common.{append_assoc, append-nil}
use Rattle.history_picture.proofs.Common.{foot_text, put_as}
use Rattle.history_picture.proofs.drawing.put_foot.Goals as goal

pub returns : goal.returns
unfolding foot_text
returns g c = put_as _ _ _ _ _ c.put_pieces.ensures (simp (append_assoc, append-nil))
