use Rattle.std.proofs.Common.{◌∙◌}
use Rattle.itm_runtime.proofs.Common.{number}
use Rattle.itm_types.proofs.SameDatum.{same_datum}
use Rattle.itm_runtime.proofs.whole_words.datum_of.Goals as goal

pub returns : goal.returns
returns c = same_datum c.new.result (number c.args.value) c.new.ensures.width (c.new.ensures.bytes ∙ c.to_le_bytes.ensures)
