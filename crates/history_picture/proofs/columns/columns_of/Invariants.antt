use Rattle.std.proofs.Common.{◌≡◌}
use Rattle.history_picture.proofs.Common.{threads_below}
use Rattle.history_picture.proofs.columns.columns_of.Given as goal

abbrev pub invariant-loop-thread : goal.invariant-loop-thread
invariant-loop-thread l = l.columns.items ≡ threads_below l.attempts l.thread
