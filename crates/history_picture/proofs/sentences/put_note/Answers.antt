use Rattle.history_picture.proofs.Common.{puts_cut, three, three_cut_first, three_cut_second}
use Rattle.history_picture.proofs.sentences.put_note.Goals as goal

pub returns-in_err-put_pieces : goal.returns-in_err-put_pieces
returns-in_err-put_pieces g c = puts_cut _ _ _ _ c.from_residual.ensures.0 (three_cut_first _ _ _ _ _ (rw c.judgement_words.ensures at c.in_err-put_pieces.ensures))

pub returns-in_err-put_call : goal.returns-in_err-put_call
returns-in_err-put_call g c = puts_cut _ _ _ _ c.from_residual-in_err-put_call.ensures.0 (three_cut_second _ _ _ _ _ _ (rw c.judgement_words.ensures at c.in_ok-put_pieces.ensures) (rw c.call_at.ensures at c.in_err-put_call.ensures))

pub returns : goal.returns
returns g c = three _ _ _ _ _ _ _ c.put_answer.result (rw c.judgement_words.ensures at c.in_ok-put_pieces.ensures) (rw c.call_at.ensures at c.in_ok-put_call.ensures) c.put_answer.ensures
