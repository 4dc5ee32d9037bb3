use Rattle.step_picture.proofs.Common.{puts_cut, puts_then, two_cut_first}
use Rattle.step_picture.proofs.drawing.put_picture.Goals as goal

pub returns-in_err-put_head : goal.returns-in_err-put_head
returns-in_err-put_head g c = puts_cut _ _ _ _ c.from_residual.ensures.0 (two_cut_first _ _ _ _ c.in_err-put_head.ensures)

pub returns : goal.returns
returns g c = puts_then _ _ _ _ _ c.put_body.result c.in_ok-put_head.ensures c.put_body.ensures
