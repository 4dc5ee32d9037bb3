use Rattle.std.proofs.Common.{◌≡◌, ◌≤◌}
use Rattle.transactions.proofs.Common.{Folds, KeepsWords}
use Rattle.transactions.proofs.client.Client.try_fold.Given as goal

abbrev pub invariant-loop-number : goal.invariant-loop-number
invariant-loop-number g l = goal.F-IsAlwaysCallable g l.step × Folds g.F.FnMut l.fn.step l.fn.self l.fn.first l.number l.step l.self l.value × (KeepsWords g.F.FnMut → l.self.transaction.words ≡ l.fn.self.transaction.words) × (l.number ≤ l.times)
