use Rattle.std.proofs.Common.{ℕ, ◌^◌, ◌-◌}
use Rattle.transactions.proofs.Common.{AreRunAgain}
use Rattle.transactions.proofs.transaction.Transaction.block.Given as goal

abbrev pub invariant-loop-told : goal.invariant-loop-told
invariant-loop-told g l = goal.F-IsAlwaysCallable g l.body × ((n : ℕ) × AreRunAgain g.F.FnMut l.fn.body l.fn.self n l.body l.self)

-- each time that it goes on, the thread reads later
abbrev pub decreases-loop-told : goal.decreases-loop-told
decreases-loop-told g l = 2 ^ 64 - l.self.thread.engine.snapshot
