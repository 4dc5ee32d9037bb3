use Rattle.tx_history.proofs.Common.{again_lines}
use Rattle.tx_history.proofs.PagedTexts.{carries_then}
use Rattle.tx_history.proofs.attempts.put_again.Goals as goal

pub returns : goal.returns
unfolding again_lines
returns g c =
    let arena = rw c.as_slice.ensures at c.put_restart.ensures in
    let undone = rw c.as_slice-2.ensures at c.put_all_undone.ensures in
    record { carries = carries_then arena.carries undone.carries; fits = record { arena = arena.fits; undone = undone.fits } }
