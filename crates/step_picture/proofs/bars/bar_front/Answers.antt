use Rattle.std.proofs.Common.{append_assoc, append-nil}
use Rattle.step_picture.proofs.Common.{bar_front}
use Rattle.step_picture.proofs.bars.bar_front.Goals as goal

pub returns : goal.returns
unfolding bar_front
returns c = simp (append_assoc, append-nil, c.saturating_sub.ensures)
