use Rattle.std.proofs.Common.{length, codes}
use Rattle.history_picture.proofs.Common.{puts_cut, seats_text, three, three_cut_first, three_cut_second}
use Rattle.picture_parts.specs.Lanes.{lanes_text}
use Rattle.history_picture.proofs.drawing.put_body.Goals as goal

pub returns-in_err-put_text : goal.returns-in_err-put_text
returns-in_err-put_text g c =
    let seats = c.args.seats.now in
    puts_cut _ _ _ _ c.from_residual.ensures.0 (three_cut_first _ _ (codes "</text>\n") (lanes_text c.args.columns.now (length seats)) (seats_text c.args.attempts.now c.args.columns.now c.args.note.now.flawed seats) c.in_err-put_text.ensures)

pub returns-in_err-put_lanes : goal.returns-in_err-put_lanes
returns-in_err-put_lanes g c =
    let seats = c.args.seats.now in
    puts_cut _ _ _ _ c.from_residual-in_err-put_lanes.ensures.0 (three_cut_second _ _ _ (codes "</text>\n") (lanes_text c.args.columns.now (length seats)) (seats_text c.args.attempts.now c.args.columns.now c.args.note.now.flawed seats) c.in_ok-put_text.ensures c.in_err-put_lanes.ensures)

pub returns : goal.returns
returns g c =
    let seats = c.args.seats.now in
    three _ _ _ _ (codes "</text>\n") (lanes_text c.args.columns.now (length seats)) (seats_text c.args.attempts.now c.args.columns.now c.args.note.now.flawed seats) c.put_seats.result
    c.in_ok-put_text.ensures c.in_ok-put_lanes.ensures c.put_seats.ensures
