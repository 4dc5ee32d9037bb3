use Rattle.std.proofs.Common.{append_assoc, append-nil}
use Rattle.history_picture.proofs.Common.{bar_back}
use Rattle.history_picture.proofs.bars.bar_back.Goals as goal

pub returns : goal.returns
unfolding bar_back
returns c = simp (append_assoc, append-nil, c.look_of.ensures, c.outcome_name.ensures, c.from.ensures)
