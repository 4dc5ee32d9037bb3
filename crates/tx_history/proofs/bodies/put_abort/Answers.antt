use Rattle.tx_history.proofs.PagedTexts.{carries_then}
use Rattle.tx_history.proofs.bodies.put_abort.Goals as goal

pub returns : goal.returns
returns g c =
    let scope = rw c.scope_text.ensures at rw c.as_bytes.ensures.value at c.bytes.ensures in
    carries_then c.text.ensures scope
