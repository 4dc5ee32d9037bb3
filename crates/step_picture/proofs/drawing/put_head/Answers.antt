use Rattle.step_picture.proofs.Common.{puts_cut, puts_then, two_cut_first}
use Rattle.step_picture.proofs.drawing.put_head.Goals as goal

pub returns-in_err-put_front : goal.returns-in_err-put_front
returns-in_err-put_front g c = puts_cut _ _ _ _ c.from_residual.ensures.0 (two_cut_first _ _ _ _ c.in_err-put_front.ensures)

pub returns : goal.returns
returns g c = puts_then _ _ _ _ _ c.put_looks.result c.in_ok-put_front.ensures c.put_looks.ensures
