use Rattle.std.proofs.Common.{rules, arith}
use Rattle.tx_history.proofs.PagedTexts.{grows_then, held}
use Rattle.tx_history.proofs.page.Page.bytes_on_next.Goals as goal

pub returns-in-Ok : goal.returns-in-Ok
returns-in-Ok g c = record { same = search rules; grows = grind (arith, held, grows_then) }

pub returns-in-Err : goal.returns-in-Err
returns-in-Err g c = record { same = search rules; grows = grind (arith, grows_then) }
