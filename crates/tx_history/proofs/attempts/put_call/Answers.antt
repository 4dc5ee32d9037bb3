use Rattle.tx_history.proofs.Common.{call_line, codes}
use Rattle.tx_history.proofs.PagedTexts.{carries_then, carries_three}
use Rattle.tx_history.proofs.attempts.put_call.Goals as goal

pub returns : goal.returns
unfolding call_line
returns g c = record {
  carries = carries_three (codes " = ") _ (codes "\n") (carries_then c.text.ensures c.put_body.ensures.carries) c.put_reply.ensures.carries;
  fits = (c.put_body.ensures.fits, c.put_reply.ensures.fits);
}
