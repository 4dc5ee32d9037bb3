use Rattle.step_table.proofs.Common.{put_as}
use Rattle.step_table.proofs.Texts.{number_parts}
use Rattle.step_table.proofs.lines.put_number.Goals as goal

pub returns : goal.returns
returns g c = put_as _ _ _ _ _ c.put_pieces.ensures (number_parts _ c.args.n c.blanks_beside-blanks.ensures)
