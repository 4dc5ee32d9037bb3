use Rattle.std.proofs.Common.{◌^◌, ◌<◌, length, subst}
use Rattle.value_log.proofs.Common.{Log}
use Rattle.value_log.proofs.IndexedRows.{few_rows}
use Rattle.value_log.proofs.log.ValueLog.len.Goals as goal

pub returns-clause-few : goal.returns-clause-few
returns-clause-few c = subst (λ (log : Log). length log.rows < 2 ^ 32) c.self.view_is (few_rows c.self.inside.rows.items c.self.invariant.single c.self.invariant.below)
