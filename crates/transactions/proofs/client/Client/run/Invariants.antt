use Rattle.std.proofs.Common.{◌≡◌, ◌+◌, ◌≤◌}
use Rattle.transactions.proofs.Common.{AreTries, IsKept, KeepsLent, looks_of}
use Rattle.transactions.proofs.client.Client.run.Given as goal

abbrev pub invariant-loop : goal.invariant-loop
invariant-loop g l = goal.F-IsAlwaysCallable g l.body × (KeepsLent g.F.FnMut → IsKept l.fn.self.transaction l.self.transaction × (looks_of l.fn.self.transaction + l.counter ≤ looks_of l.self.transaction)) × (l.end ≡ l.fn.self.tries) × (l.counter ≤ l.end) × AreTries g.F.FnMut l.fn.body l.fn.self.transaction l.counter l.again l.body l.self.transaction × (l.self.tries ≡ l.fn.self.tries)
