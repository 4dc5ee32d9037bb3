use Rattle.std.proofs.Common.{append_assoc, append-nil}
use Rattle.step_picture.proofs.Common.{back_text}
use Rattle.step_picture.proofs.restarts.way_back.Goals as goal

pub returns : goal.returns
unfolding back_text
returns c = simp (append_assoc, append-nil)
