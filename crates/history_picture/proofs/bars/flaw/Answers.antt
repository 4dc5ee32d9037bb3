use Rattle.std.proofs.Common.{append_assoc, append-nil}
use Rattle.history_picture.proofs.Common.{flaw_text}
use Rattle.history_picture.proofs.bars.flaw.Goals as goal

pub returns : goal.returns
unfolding flaw_text
returns c = simp (append_assoc, append-nil)
