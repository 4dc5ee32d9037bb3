use Rattle.std.proofs.Common.{◌≡◌}
use Rattle.picture_parts.specs.Lanes.{lane_in}
use Rattle.picture_parts.proofs.lanes.lane_in.Given as goal

abbrev pub invariant-loop-at : goal.invariant-loop-at
invariant-loop-at l = lane_in l.columns l.thread l.at ≡ lane_in l.columns l.thread l.end

abbrev pub decreases-loop-at : goal.decreases-loop-at
decreases-loop-at l = l.at
