use Rattle.history_picture.proofs.Common.{puts_cut, puts_then, told_text, two_cut_first}
use Rattle.history_picture.proofs.sentences.put_told.Goals as goal

pub returns-in_err-put_text : goal.returns-in_err-put_text
unfolding told_text
returns-in_err-put_text g c = puts_cut _ _ _ _ c.from_residual.ensures.0 (two_cut_first _ _ _ _ c.in_err-put_text.ensures)

pub returns : goal.returns
unfolding told_text
returns g c = puts_then _ _ _ _ _ c.put_pair.result c.in_ok-put_text.ensures (rw c.body_of.ensures at rw c.told_reply.ensures at c.put_pair.ensures)
