use Rattle.tx_history.proofs.CallLines.{AreTold}
use Rattle.tx_history.proofs.attempts.put_body_lines.Given as goal

abbrev pub invariant-loop-again : goal.invariant-loop-again
invariant-loop-again g l = AreTold g.W.Write.contents l.fn.page l.page l.calls l.restarts l.again-index l.told l.left
