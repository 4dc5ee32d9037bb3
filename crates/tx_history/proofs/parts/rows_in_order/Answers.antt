use Rattle.tx_history.proofs.RowTexts.{rows_lines}
use Rattle.tx_history.proofs.parts.rows_in_order.Goals as goal

pub returns : goal.returns
returns c h rows are = rows_lines h rows are
