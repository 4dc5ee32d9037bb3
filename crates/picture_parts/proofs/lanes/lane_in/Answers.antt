use Rattle.std.proofs.Common.{sym, ◌∙◌}
use Rattle.picture_parts.proofs.Backs.{lane_back}
use Rattle.picture_parts.proofs.lanes.lane_in.Goals as goal

pub loop-at-preserved : goal.loop-at-preserved
loop-at-preserved c = lane_back c.args.columns.now c.args.thread c.loop-at.at c.loop-at-test.true (sym c.is_lane.ensures ∙ c.if-is_lane.false) ∙ c.loop-at.invariant
