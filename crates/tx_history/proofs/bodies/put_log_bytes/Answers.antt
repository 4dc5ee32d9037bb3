use Rattle.tx_history.proofs.Common.{codes}
use Rattle.tx_history.proofs.PagedTexts.{carries_both}
use Rattle.tx_history.proofs.bodies.put_log_bytes.Goals as goal

pub returns : goal.returns
returns g c = record { carries = carries_both (codes " ") _ c.put_at.ensures.carries c.blank_number.ensures.carries; fits = (c.put_at.ensures.fits, c.blank_number.ensures.fits) }
