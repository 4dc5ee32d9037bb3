use Rattle.tx_history.proofs.PagedTexts.{spells_end}
use Rattle.tx_history.proofs.attempts.write_attempt.Goals as goal

pub returns-clause-spells : goal.returns-clause-spells
returns-clause-spells g c = spells_end _ _ _ _ _ c.put_attempt.ensures c.flush.ensures.carries
