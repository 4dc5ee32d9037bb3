use Rattle.tx_history.proofs.Common.{history_text}
use Rattle.tx_history.proofs.PagedTexts.{carries_then}
use Rattle.tx_history.proofs.history.put_history.Goals as goal

pub returns : goal.returns
unfolding history_text
returns g c = record {
  carries = carries_then (carries_then c.put_first.ensures.carries c.put_attempts.ensures.carries) c.put_last.ensures.carries;
  fits = record {
    memory = c.put_first.ensures.fits;
    attempts = c.put_attempts.ensures.fits;
    clock = c.put_last.ensures.fits.0;
    bytes = c.put_last.ensures.fits.1;
  };
}
