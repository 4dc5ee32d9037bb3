use Rattle.history_picture.proofs.Common.{bar_back, bar_front, puts_cut, three, three_cut_first, three_cut_second}
use Rattle.tx_history.specs.Histories.{attempt_lines}
use Rattle.history_picture.proofs.bars.put_bar.Goals as goal

pub returns-in_err-put_pieces : goal.returns-in_err-put_pieces
returns-in_err-put_pieces g c =
    let a = c.args.attempt.now in
    puts_cut _ _ _ _ c.from_residual.ensures.0 (three_cut_first _ _ (bar_front c.args.at c.args.lane) (attempt_lines a) (bar_back a) (rw c.bar_front.ensures at c.in_err-put_pieces.ensures))

pub returns-in_err-write_row : goal.returns-in_err-write_row
returns-in_err-write_row g c =
    let a = c.args.attempt.now in
    puts_cut _ _ _ _ c.from_residual-in_err-write_row.ensures.0 (three_cut_second _ _ _ (bar_front c.args.at c.args.lane) (attempt_lines a) (bar_back a) (rw c.bar_front.ensures at c.in_ok-put_pieces.ensures) c.in_err-write_row.ensures.written)

pub returns : goal.returns
returns g c =
    let a = c.args.attempt.now in
    three _ _ _ _ (bar_front c.args.at c.args.lane) (attempt_lines a) (bar_back a) c.put_pieces-2.result
    (rw c.bar_front.ensures at c.in_ok-put_pieces.ensures) c.in_ok-write_row.ensures.written (rw c.bar_back.ensures at c.put_pieces-2.ensures)
