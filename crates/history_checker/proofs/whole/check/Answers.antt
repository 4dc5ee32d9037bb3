use Rattle.history_checker.proofs.Legality.Verdicts.{legal_as_told}
use Rattle.history_checker.proofs.whole.check.Goals as goal

pub returns-clause-legal : goal.returns-clause-legal
returns-clause-legal c = legal_as_told c.args.history.now c.in_ok-judged.ensures.verdict
