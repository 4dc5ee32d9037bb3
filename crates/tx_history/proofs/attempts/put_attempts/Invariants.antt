use Rattle.std.proofs.Common.{All, take}
use Rattle.tx_history.proofs.Common.{AttemptFits, Spells, attempt_lines, flat_map}
use Rattle.tx_history.proofs.attempts.put_attempts.Given as goal

abbrev pub invariant-loop-attempt : goal.invariant-loop-attempt
invariant-loop-attempt g l = Spells g.W.Write.contents l.fn.page l.page (flat_map attempt_lines (take l.attempt-index l.attempts)) (All AttemptFits (take l.attempt-index l.attempts))
