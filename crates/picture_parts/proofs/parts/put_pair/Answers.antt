use Rattle.picture_parts.proofs.Texts.{puts_cut, puts_then, two_cut_first}
use Rattle.picture_parts.proofs.parts.put_pair.Goals as goal

pub returns-in_err-put_pieces : goal.returns-in_err-put_pieces
returns-in_err-put_pieces g c = puts_cut _ _ _ _ c.from_residual.ensures.0 (two_cut_first _ _ _ _ c.in_err-put_pieces.ensures)

pub returns : goal.returns
returns g c = puts_then _ _ _ _ _ c.put_pieces-2.result c.in_ok-put_pieces.ensures c.put_pieces-2.ensures
