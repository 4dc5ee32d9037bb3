use Rattle.std.proofs.Common.{◌≡◌}
use Rattle.step_picture.proofs.Common.{begun_in}
use Rattle.step_picture.proofs.walks.begun_in.Given as goal

abbrev pub invariant-loop-at : goal.invariant-loop-at
invariant-loop-at l = begun_in l.marks l.thread l.at ≡ begun_in l.marks l.thread l.end

abbrev pub decreases-loop-at : goal.decreases-loop-at
decreases-loop-at l = l.at
