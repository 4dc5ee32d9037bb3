use Rattle.std.proofs.Common.{false}
use Rattle.tx_map.proofs.Common.{Does, IsKept}
use Rattle.tx_map.proofs.Finds.{Walks}
use Rattle.tx_map.proofs.table.Table.find.Given as goal

abbrev pub invariant-loop-steps : goal.invariant-loop-steps
invariant-loop-steps l = record {
  kept : IsKept l.fn.tx l.tx;
  walks : Does l.fn.tx.words l.fn.tx.thread l.tx.thread false (Walks l.self.slots.first l.self.slots.count l.key l.steps);
}
