use Rattle.std.proofs.Common.{◌∙◌}
use Rattle.itm_c.proofs.Common.{number_of_4, same_datum}
use Rattle.itm_c.proofs.datum.datum_of_4.Goals as goal

pub returns : goal.returns
returns c = same_datum c.new.result (number_of_4 c.args.value) c.new.ensures.width (c.new.ensures.bytes ∙ c.to_le_bytes.ensures)
