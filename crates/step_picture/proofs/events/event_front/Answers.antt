use Rattle.std.proofs.Common.{append_assoc, append-nil}
use Rattle.step_picture.proofs.Common.{event_front}
use Rattle.step_picture.proofs.events.event_front.Goals as goal

pub returns : goal.returns
unfolding event_front
returns c = simp (append_assoc, append-nil)
