use Rattle.std.proofs.Common.{◌≡◌}
use Rattle.step_picture.proofs.Common.{known_in}
use Rattle.step_picture.proofs.walks.known_in.Given as goal

abbrev pub invariant-loop-at : goal.invariant-loop-at
invariant-loop-at l = known_in l.marks l.thread l.at ≡ known_in l.marks l.thread l.end

abbrev pub decreases-loop-at : goal.decreases-loop-at
decreases-loop-at l = l.at
