use Rattle.tx_history.proofs.Common.{codes}
use Rattle.tx_history.proofs.PagedTexts.{carries_both}
use Rattle.tx_history.proofs.bodies.put_write.Goals as goal

pub returns : goal.returns
returns g c =
    let value = rw c.as_slice.ensures.value at c.blank_hex.ensures in
    record { carries = carries_both (codes " ") _ c.put_at.ensures.carries value.carries; fits = (c.put_at.ensures.fits, value.fits) }
