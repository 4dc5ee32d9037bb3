use Rattle.std.proofs.Common.{subst}
use Rattle.write_set.proofs.Common.{AreRows, Indexed}
use Rattle.write_set.proofs.Held.{front}
use Rattle.write_set.proofs.keyed_rows.Rows.are_few.Goals as goal

pub returns-clause-rows : goal.returns-clause-rows
returns-clause-rows c = subst (λ (k : Indexed). AreRows k.rows) c.self.view_is (front c.self.inside.list.items c.self.inside.len c.self.inside.index.entries c.self.inside.indexed c.self.invariant)
