use Rattle.step_table.proofs.Texts.{puts_cut, three, three_cut_first, three_cut_second}
use Rattle.step_table.proofs.parts.put_three.Goals as goal

pub returns-in_err-put_pieces : goal.returns-in_err-put_pieces
returns-in_err-put_pieces g c = puts_cut _ _ _ _ c.from_residual.ensures.0 (three_cut_first _ _ _ _ _ c.in_err-put_pieces.ensures)

pub returns-in_err-put_pieces-2 : goal.returns-in_err-put_pieces-2
returns-in_err-put_pieces-2 g c = puts_cut _ _ _ _ c.from_residual-in_err-put_pieces-2.ensures.0 (three_cut_second _ _ _ _ _ _ c.in_ok-put_pieces.ensures c.in_err-put_pieces-2.ensures)

pub returns : goal.returns
returns g c = three _ _ _ _ _ _ _ c.put_pieces-3.result c.in_ok-put_pieces.ensures c.in_ok-put_pieces-2.ensures c.put_pieces-3.ensures
