use Rattle.std.proofs.Common.{arith}
use Rattle.tx_history.proofs.Common.{Number, common_steps, undo_action_text}
use Rattle.tx_history.proofs.PagedTexts.{carries_as}
use Rattle.tx_history.proofs.bodies.put_undo_action.Goals as goal

pub returns : goal.returns
unfolding undo_action_text
returns g c = record {
  carries = carries_as _ _ _ _ c.put.ensures.carries (grind (arith, common_steps));
  fits = (c.function_number.ensures.fits, c.put.ensures.fits 3 (Number 0) (omega arith));
}
