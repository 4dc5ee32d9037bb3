use Rattle.tx_history.proofs.Common.{codes, try_text}
use Rattle.tx_history.proofs.PagedTexts.{carries_both}
use Rattle.tx_history.proofs.attempts.put_try.Goals as goal

pub returns : goal.returns
unfolding try_text
returns g c =
    let thread = rw c.from.ensures at c.blank_number.ensures.carries in
    let nth = rw c.from-2.ensures at c.blank_number-2.ensures.carries in
    let first = carries_both (codes " ") _ (carries_both (codes " ") _ c.text.ensures thread) nth in
    record {
      carries = carries_both (codes " ") _ (carries_both (codes " ") _ first c.blank_number-3.ensures.carries) c.put_outcome.ensures;
      fits = c.blank_number-3.ensures.fits;
    }
