use Rattle.std.proofs.Common.{◌≡◌, ◌++◌, map, take, drop}
use Rattle.nest_frames.proofs.Common.{forgotten}
use Rattle.nest_frames.proofs.moments.Moments.forget.Given as goal

abbrev pub invariant-loop-moment : goal.invariant-loop-moment
invariant-loop-moment l = l.moment-items ≡ map forgotten (take l.moment-index l.initial.moment-items) ++ drop l.moment-index l.initial.moment-items
