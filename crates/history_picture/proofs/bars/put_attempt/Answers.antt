use Rattle.std.proofs.Common.{ℕ, ◌++◌, length, ap}
use Rattle.history_picture.proofs.Common.{bar_text, cell_text, mark_text, put_as, puts_then, seat_in}
use Rattle.history_picture.proofs.bars.put_attempt.Goals as goal

pub returns : goal.returns
returns g c =
    let a = c.args.attempt.now in
    let lanes = length c.args.columns.now in
    let lane = c.lane_in-lane.result in
    put_as _ _ _ _ _
    (puts_then _ _ _ (bar_text c.args.at lane a) (mark_text c.args.flawed c.args.place c.args.at lane ++ cell_text c.args.at lanes c.args.place a) c.put_beside.result c.in_ok-put_bar.ensures c.put_beside.ensures)
    (ap (λ (l : ℕ). seat_in lanes l c.args.flawed c.args.at c.args.place a) c.lane_in-lane.ensures)
