use Rattle.tx_history.proofs.Common.{head_line}
use Rattle.tx_history.proofs.PagedTexts.{carries_then}
use Rattle.tx_history.proofs.attempts.put_head.Goals as goal

pub returns : goal.returns
unfolding head_line
returns g c = record { carries = carries_then c.put_try.ensures.carries c.put_props.ensures; fits = c.put_try.ensures.fits }
