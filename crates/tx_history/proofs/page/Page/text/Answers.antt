use Rattle.std.proofs.Common.{rules, arith}
use Rattle.tx_history.proofs.PagedTexts.{held}
use Rattle.tx_history.proofs.page.Page.text.Goals as goal

pub returns-else-is_err : goal.returns-else-is_err
returns-else-is_err g c = record { same = search rules; grows = grind (arith, held) }
