use Rattle.run_commands.proofs.SentTexts.{SendsFirst}
use Rattle.run_commands.proofs.telling.put_attempts.Given as goal

abbrev pub invariant-loop-attempt : goal.invariant-loop-attempt
invariant-loop-attempt g l = SendsFirst g.W.Write.contents l.attempts l.fn.stream l.stream l.attempt-index
