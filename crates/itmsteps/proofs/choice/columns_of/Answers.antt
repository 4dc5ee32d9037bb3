use Rattle.std.proofs.Common.{ℕ, List, ap}
use Rattle.itmsteps.proofs.choice.columns_of.Goals as goal

pub returns-in-None : goal.returns-in-None
returns-in-None c = rw c.in-None.is (ap (λ (items : List ℕ). record { items = items }) c.all_threads.ensures)
