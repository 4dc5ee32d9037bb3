use Rattle.std.proofs.Common.{sym, ap}
use Rattle.tx_history.proofs.Common.{version_lines}
use Rattle.tx_history.proofs.PagedTexts.{carries_as, carries_then}
use Rattle.tx_history.proofs.rows.put_version.Goals as goal

pub returns-in-Three : goal.returns-in-Three
returns-in-Three g c =
    let number = rw c.from.ensures at c.number.ensures.carries in
    carries_as _ _ _ _ (carries_then (carries_then c.text-in-Three.ensures number) c.text-in-Three-2.ensures) (ap version_lines (sym c.in-Three.is))
