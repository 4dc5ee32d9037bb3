use Rattle.itm_runtime.proofs.Common.{Load, StepsOn, left, next_in, view_of}
use Rattle.itm_runtime.proofs.rounds.round.Given as goal

-- steps of the call were done
abbrev pub invariant-loop-cell : goal.invariant-loop-cell
invariant-loop-cell g l = StepsOn l.words (view_of l.fn.pass) l.fn.engine (Load 0) l.pass l.engine (next_in l.next l.answer)

abbrev pub decreases-loop-cell : goal.decreases-loop-cell
decreases-loop-cell g l = left l.engine (next_in l.next l.answer)
