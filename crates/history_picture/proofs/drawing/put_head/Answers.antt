use Rattle.history_picture.proofs.Common.{front_text, looks_text, note_text, puts_cut, three, three_cut_first, three_cut_second, width_of}
use Rattle.history_picture.proofs.drawing.put_head.Goals as goal

pub returns-in_err-put_front : goal.returns-in_err-put_front
returns-in_err-put_front g c = puts_cut _ _ _ _ c.from_residual.ensures.0 (three_cut_first _ _ (front_text (width_of c.args.seats) c.args.lanes) looks_text (note_text c.args.attempts.now c.args.note.now) (rw c.width_of.ensures at c.in_err-put_front.ensures))

pub returns-in_err-put_looks : goal.returns-in_err-put_looks
returns-in_err-put_looks g c = puts_cut _ _ _ _ c.from_residual-in_err-put_looks.ensures.0 (three_cut_second _ _ _ (front_text (width_of c.args.seats) c.args.lanes) looks_text (note_text c.args.attempts.now c.args.note.now) (rw c.width_of.ensures at c.in_ok-put_front.ensures) c.in_err-put_looks.ensures)

pub returns : goal.returns
returns g c =
    three _ _ _ _ (front_text (width_of c.args.seats) c.args.lanes) looks_text (note_text c.args.attempts.now c.args.note.now) c.put_note.result
    (rw c.width_of.ensures at c.in_ok-put_front.ensures) c.in_ok-put_looks.ensures c.put_note.ensures
