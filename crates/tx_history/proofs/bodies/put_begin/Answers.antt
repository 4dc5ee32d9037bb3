use Rattle.tx_history.proofs.PagedTexts.{carries_then}
use Rattle.tx_history.proofs.bodies.put_begin.Goals as goal

pub returns : goal.returns
returns g c =
    let props = rw c.props_text.ensures at rw c.as_bytes.ensures.value at c.bytes.ensures in
    carries_then c.text.ensures props
