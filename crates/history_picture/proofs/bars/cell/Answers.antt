use Rattle.std.proofs.Common.{append_assoc, append-nil}
use Rattle.history_picture.proofs.Common.{cell_text}
use Rattle.history_picture.proofs.bars.cell.Goals as goal

pub returns : goal.returns
unfolding cell_text
returns c = simp (append_assoc, append-nil, c.cell_look.ensures)
