use Rattle.std.proofs.Common.{ℕ, length}
use Rattle.std.{proofs.KnownBytes.Appends-nil, specs.Prelude.slice_get}
use Rattle.picture_parts.{specs.Lanes.lane_at, proofs.Texts.more_texts, proofs.Texts.puts_cut, proofs.Texts.texts_stop}
use Rattle.picture_parts.proofs.lanes.put_lanes.Goals as goal

pub loop-lane-init : goal.loop-lane-init
loop-lane-init g c = Appends-nil _

pub loop-lane-preserved : goal.loop-lane-preserved
loop-lane-preserved g c = more_texts (λ (j : ℕ). lane_at c.args.events j (slice_get c.args.columns.now j)) _ _ _ c.loop-lane.lane c.loop-lane.invariant c.in_ok-put_lane.ensures

pub returns-in_err-put_lane : goal.returns-in_err-put_lane
returns-in_err-put_lane g c = puts_cut _ _ _ _ c.from_residual.ensures.0 (texts_stop (λ (j : ℕ). lane_at c.args.events j (slice_get c.args.columns.now j)) _ _ _ c.loop-lane.lane (length c.args.columns.now) c.loop-lane-test.true c.loop-lane.invariant c.in_err-put_lane.ensures)
