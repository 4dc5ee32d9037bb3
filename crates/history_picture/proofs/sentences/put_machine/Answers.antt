use Rattle.history_picture.proofs.Common.{machine_text, puts_cut, puts_then, two_cut_first}
use Rattle.history_picture.proofs.sentences.put_machine.Goals as goal

pub returns-in_err-put_text : goal.returns-in_err-put_text
unfolding machine_text
returns-in_err-put_text g c = puts_cut _ _ _ _ c.from_residual.ensures.0 (two_cut_first _ _ _ _ c.in_err-put_text.ensures)

pub returns : goal.returns
unfolding machine_text
returns g c = puts_then _ _ _ _ _ c.put_pieces.result c.in_ok-put_text.ensures (rw c.reply_of.ensures at c.put_pieces.ensures)
