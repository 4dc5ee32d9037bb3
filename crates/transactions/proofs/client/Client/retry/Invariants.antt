use Rattle.std.proofs.Common.{◌≡◌, ◌+◌, ◌≤◌}
use Rattle.transactions.proofs.Common.{AreCancelled, IsKept, KeepsBody, KeepsLent, looks_of}
use Rattle.transactions.proofs.client.Client.retry.Given as goal

abbrev pub invariant-loop : goal.invariant-loop
invariant-loop g l = goal.F-IsAlwaysCallable g l.body × (KeepsLent g.F.FnMut → IsKept l.fn.self.transaction l.self.transaction × (looks_of l.fn.self.transaction + l.counter ≤ looks_of l.self.transaction)) × (l.self.tries ≡ l.fn.self.tries) × (l.counter ≤ l.retries) × (KeepsBody g.F.FnMut → l.body ≡ l.fn.body) × AreCancelled g.F.FnMut l.fn.body l.fn.self.transaction l.fn.self.tries l.counter l.body l.self.transaction
