use Rattle.std.proofs.Common.{rules}
use Rattle.tx_history.proofs.PagedTexts.{carries_then}
use Rattle.tx_history.proofs.page.Page.blank_number.Goals as goal

pub returns-in_default : goal.returns-in_default
returns-in_default g c = record { carries = carries_then c.text.ensures c.digits.ensures; fits = search rules }
