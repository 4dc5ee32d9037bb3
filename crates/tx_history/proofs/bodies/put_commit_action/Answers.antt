use Rattle.std.proofs.Common.{arith, codes}
use Rattle.tx_history.proofs.Common.{Number, commit_action_text}
use Rattle.tx_history.{proofs.AppendedTexts.numbers_spelled, proofs.PagedTexts.carries_as}
use Rattle.tx_history.proofs.bodies.put_commit_action.Goals as goal

pub returns : goal.returns
unfolding commit_action_text
returns g c = record {
  carries = carries_as _ _ _ _ c.put.ensures.carries
      (numbers_spelled (codes "_ITM_addUserCommitAction ") (codes " _ITM_noTransactionId ") _ _ _ c.function_number.ensures.value);
  fits = (c.function_number.ensures.fits, c.put.ensures.fits 3 (Number 0) (omega arith));
}
