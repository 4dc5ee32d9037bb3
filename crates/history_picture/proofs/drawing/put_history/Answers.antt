use Rattle.history_picture.proofs.Common.{puts_cut, three, three_cut_first, three_cut_second}
use Rattle.history_picture.proofs.drawing.put_history.Goals as goal

pub returns-in_err-put_head : goal.returns-in_err-put_head
returns-in_err-put_head g c = puts_cut _ _ _ _ c.from_residual.ensures.0 (three_cut_first _ _ _ _ _ c.in_err-put_head.ensures)

pub returns-in_err-put_body : goal.returns-in_err-put_body
returns-in_err-put_body g c = puts_cut _ _ _ _ c.from_residual-in_err-put_body.ensures.0 (three_cut_second _ _ _ _ _ _ c.in_ok-put_head.ensures c.in_err-put_body.ensures)

pub returns : goal.returns
returns g c = three _ _ _ _ _ _ _ c.put_foot.result c.in_ok-put_head.ensures c.in_ok-put_body.ensures c.put_foot.ensures
