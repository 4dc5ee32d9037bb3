use Rattle.std.proofs.Common.{rules, arith}
use Rattle.tx_history.proofs.PagedTexts.{lost, turned}
use Rattle.tx_history.proofs.page.Page.flush.Goals as goal

pub returns-clause-carries : goal.returns-clause-carries
returns-clause-carries g c = record { same = search rules; grows = grind (arith, turned, lost) }
