use Rattle.std.proofs.Common.{◌∙◌}
use Rattle.itm_c.proofs.Common.{number_of_1, same_datum}
use Rattle.itm_c.proofs.datum.datum_of_1.Goals as goal

pub returns : goal.returns
returns c = same_datum c.new.result (number_of_1 c.args.value) c.new.ensures.width (c.new.ensures.bytes ∙ c.to_le_bytes.ensures)
