use Rattle.step_picture.proofs.Common.{puts_cut, three, three_cut_first, three_cut_second}
use Rattle.step_picture.proofs.drawing.put_body.Goals as goal

pub returns-in_err-put_lanes : goal.returns-in_err-put_lanes
returns-in_err-put_lanes g c = puts_cut _ _ _ _ c.from_residual.ensures.0 (three_cut_first _ _ _ _ _ c.in_err-put_lanes.ensures)

pub returns-in_err-put_marks : goal.returns-in_err-put_marks
returns-in_err-put_marks g c = puts_cut _ _ _ _ c.from_residual-in_err-put_marks.ensures.0 (three_cut_second _ _ _ _ _ _ c.in_ok-put_lanes.ensures c.in_err-put_marks.ensures)

pub returns : goal.returns
returns g c = three _ _ _ _ _ _ _ c.put_foot.result c.in_ok-put_lanes.ensures c.in_ok-put_marks.ensures c.put_foot.ensures
