use Rattle.tx_history.proofs.Common.{attempt_lines}
use Rattle.tx_history.proofs.PagedTexts.{carries_then}
use Rattle.tx_history.proofs.attempts.put_attempt.Goals as goal

pub returns : goal.returns
unfolding attempt_lines
returns g c =
    let arena = rw c.as_slice.ensures at c.put_arena.ensures in
    let calls = rw c.as_slice-3.ensures at rw c.as_slice-2.ensures at c.put_body_lines.ensures in
    let ran = rw c.as_slice-4.ensures at c.put_all_ran.ensures in
    record {
      carries = carries_then (carries_then (carries_then (carries_then c.put_head.ensures.carries arena.carries) calls.carries) ran.carries) c.text.ensures;
      fits = record { at = c.put_head.ensures.fits; arena = arena.fits; calls = calls.fits.0; restarts = calls.fits.1; ran = ran.fits };
    }
