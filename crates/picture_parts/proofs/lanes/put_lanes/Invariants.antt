use Rattle.std.proofs.Common.{ℕ}
use Rattle.std.{specs.Io.KnownBytes.Appends, specs.Prelude.slice_get}
use Rattle.picture_parts.{specs.Texts.first_texts, specs.Lanes.lane_at}
use Rattle.picture_parts.proofs.lanes.put_lanes.Given as goal

abbrev pub invariant-loop-lane : goal.invariant-loop-lane
invariant-loop-lane g l = Appends (g.W.Write.contents l.fn.writer) (g.W.Write.contents l.writer) (first_texts (λ (j : ℕ). lane_at l.events j (slice_get l.columns j)) l.lane)
