use Rattle.step_table.proofs.Common.{codes, front_text, number_text}
use Rattle.step_table.{proofs.ShownRows.puts_then, proofs.Texts.puts_cut, proofs.Texts.two_cut_first}
use Rattle.step_table.proofs.lines.put_front.Goals as goal

pub returns-in_err-put_number : goal.returns-in_err-put_number
unfolding front_text
returns-in_err-put_number g c = puts_cut _ _ _ _ c.from_residual.ensures.0 (two_cut_first _ _ (number_text c.args.event.number) (codes "  ") c.in_err-put_number.ensures)

pub returns : goal.returns
unfolding front_text
returns g c = puts_then _ _ _ (number_text c.args.event.number) (codes "  ") c.put_pieces.result c.in_ok-put_number.ensures c.put_pieces.ensures
