use Rattle.tx_history.proofs.Common.{codes}
use Rattle.tx_history.proofs.PagedTexts.{carries_both, carries_then}
use Rattle.tx_history.proofs.bodies.put_load.Goals as goal

pub returns : goal.returns
returns g c =
    let size = rw c.size.ensures.value at rw c.from.ensures at c.number.ensures.carries in
    record { carries = carries_both (codes " ") _ (carries_then c.text.ensures size) c.blank_number.ensures.carries; fits = c.blank_number.ensures.fits }
