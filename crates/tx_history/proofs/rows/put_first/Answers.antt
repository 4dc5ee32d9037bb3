use Rattle.tx_history.proofs.Common.{codes, first_lines}
use Rattle.tx_history.proofs.PagedTexts.{carries_three}
use Rattle.tx_history.proofs.rows.put_first.Goals as goal

pub returns : goal.returns
unfolding first_lines
returns g c = record { carries = carries_three (codes "memory ") _ (codes "\n") c.put_version.ensures c.put_memory.ensures.carries; fits = c.put_memory.ensures.fits }
