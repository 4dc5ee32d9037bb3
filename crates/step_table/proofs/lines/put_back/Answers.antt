use Rattle.step_table.proofs.Common.{back_text, codes, number_text, said}
use Rattle.step_table.proofs.Texts.{puts_cut, three, three_cut_first, three_cut_second}
use Rattle.step_table.proofs.lines.put_back.Goals as goal

pub returns-in_err-put_number : goal.returns-in_err-put_number
unfolding back_text
returns-in_err-put_number g c = puts_cut _ _ _ _ c.from_residual.ensures.0 (three_cut_first _ _ (number_text c.args.event.clock) (said c.args.came.now) (codes "\n") c.in_err-put_number.ensures)

pub returns-in_err-put_came : goal.returns-in_err-put_came
unfolding back_text
returns-in_err-put_came g c = puts_cut _ _ _ _ c.from_residual-in_err-put_came.ensures.0 (three_cut_second _ _ _ (number_text c.args.event.clock) (said c.args.came.now) (codes "\n") c.in_ok-put_number.ensures c.in_err-put_came.ensures)

pub returns : goal.returns
unfolding back_text
returns g c = three _ _ _ _ (number_text c.args.event.clock) (said c.args.came.now) (codes "\n") c.put_pieces.result c.in_ok-put_number.ensures c.in_ok-put_came.ensures c.put_pieces.ensures
