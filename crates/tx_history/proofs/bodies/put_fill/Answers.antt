use Rattle.std.proofs.Common.{arith}
use Rattle.tx_history.proofs.Common.{Number, common_steps, fill_text}
use Rattle.tx_history.proofs.PagedTexts.{carries_as}
use Rattle.tx_history.proofs.bodies.put_fill.Goals as goal

pub returns : goal.returns
unfolding fill_text
returns g c = record {
  carries = carries_as _ _ _ _ c.put.ensures.carries (grind (arith, common_steps, c.as_bytes.ensures.value, c.name_of.ensures));
  fits = (c.put.ensures.fits 2 (Number 0) (omega arith), c.put.ensures.fits 6 (Number 0) (omega arith));
}
