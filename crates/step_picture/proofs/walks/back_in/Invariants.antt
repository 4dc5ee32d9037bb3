use Rattle.std.proofs.Common.{◌≡◌}
use Rattle.step_picture.proofs.Common.{back_in}
use Rattle.step_picture.proofs.walks.back_in.Given as goal

abbrev pub invariant-loop-at : goal.invariant-loop-at
invariant-loop-at l = back_in l.marks l.thread l.calls l.at l.best ≡ back_in l.marks l.thread l.calls l.end l.end

abbrev pub decreases-loop-at : goal.decreases-loop-at
decreases-loop-at l = l.at
