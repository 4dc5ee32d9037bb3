use Rattle.std.proofs.Common.{None, codes, flat_map}
use Rattle.step_table.proofs.Common.{column_text}
use Rattle.step_table.proofs.Texts.{puts_cut, three, three_cut_first, three_cut_second}
use Rattle.step_table.proofs.lines.put_heads.Goals as goal

pub returns-in_err-put_pieces : goal.returns-in_err-put_pieces
returns-in_err-put_pieces g c = puts_cut _ _ _ _ c.from_residual.ensures.0 (three_cut_first _ _ (codes "event  ") (flat_map (column_text None) c.args.threads.now) (codes "clock\n") c.in_err-put_pieces.ensures)

pub returns-in_err-put_columns : goal.returns-in_err-put_columns
returns-in_err-put_columns g c = puts_cut _ _ _ _ c.from_residual-in_err-put_columns.ensures.0 (three_cut_second _ _ _ (codes "event  ") (flat_map (column_text None) c.args.threads.now) (codes "clock\n") c.in_ok-put_pieces.ensures c.in_err-put_columns.ensures)

pub returns : goal.returns
returns g c =
    three _ _ _ _ (codes "event  ") (flat_map (column_text None) c.args.threads.now) (codes "clock\n") c.put_pieces-2.result c.in_ok-put_pieces.ensures c.in_ok-put_columns.ensures c.put_pieces-2.ensures
