use Rattle.std.proofs.Common.{append_assoc, append-nil}
use Rattle.step_picture.proofs.Common.{clock_text}
use Rattle.step_picture.proofs.events.clock.Goals as goal

pub returns : goal.returns
unfolding clock_text
returns c = simp (append_assoc, append-nil, c.look_of.ensures)
