use Rattle.tx_history.proofs.PagedTexts.{carries_then}
use Rattle.tx_history.proofs.page.Page.blank_hex.Goals as goal

pub returns-else-bytes-eq8 : goal.returns-else-bytes-eq8
returns-else-bytes-eq8 g c = record { carries = carries_then c.text.ensures c.hex_in_chunks.ensures.carries; fits = c.hex_in_chunks.ensures.fits }
