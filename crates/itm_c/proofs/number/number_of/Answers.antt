use Rattle.std.proofs.Common.{ap, ◌∙◌, w64}
use Rattle.std.specs.Int.{from_le_bytes}
use Rattle.itm_c.proofs.Numbers.{padded}
use Rattle.itm_c.proofs.number.number_of.Goals as goal

pub returns : goal.returns
returns c = c.from_le_bytes.ensures ∙ ap (from_le_bytes w64) (padded c.args.bytes.now c.copy_from_slice.new.self c.min-count.result c.copy_from_slice.ensures.after c.min-count.ensures)
