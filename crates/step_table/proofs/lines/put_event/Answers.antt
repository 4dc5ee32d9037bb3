use Rattle.step_table.proofs.Texts.{puts_cut, three, three_cut_first, three_cut_second}
use Rattle.step_table.proofs.lines.put_event.Goals as goal

pub returns-in_err-put_front : goal.returns-in_err-put_front
returns-in_err-put_front g c = puts_cut _ _ _ _ c.from_residual.ensures.0 (three_cut_first _ _ _ _ _ c.in_err-put_front.ensures)

pub returns-in_err-put_columns : goal.returns-in_err-put_columns
returns-in_err-put_columns g c = puts_cut _ _ _ _ c.from_residual-in_err-put_columns.ensures.0 (three_cut_second _ _ _ _ _ _ c.in_ok-put_front.ensures c.in_err-put_columns.ensures)

pub returns : goal.returns
returns g c = three _ _ _ _ _ _ _ c.put_back.result c.in_ok-put_front.ensures c.in_ok-put_columns.ensures c.put_back.ensures
