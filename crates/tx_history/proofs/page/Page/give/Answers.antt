use Rattle.std.proofs.Common.{rules, arith}
use Rattle.tx_history.proofs.PagedTexts.{given, lost}
use Rattle.tx_history.proofs.page.Page.give.Goals as goal

pub returns-in-Err : goal.returns-in-Err
returns-in-Err g c = record { same = search rules; grows = grind (arith, given) }

pub returns-in_default : goal.returns-in_default
returns-in_default g c = record { same = search rules; grows = grind (arith, given) }

pub returns-else-not-has_failed : goal.returns-else-not-has_failed
returns-else-not-has_failed g c = record { same = search rules; grows = grind (arith, lost) }
