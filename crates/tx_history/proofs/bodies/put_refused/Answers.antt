use Rattle.tx_history.proofs.PagedTexts.{carries_then}
use Rattle.tx_history.proofs.bodies.put_refused.Goals as goal

pub returns : goal.returns
returns g c =
    let number = rw c.number.ensures at rw c.from.ensures at c.number-2.ensures.carries in
    carries_then (carries_then c.text.ensures number) c.text-2.ensures
