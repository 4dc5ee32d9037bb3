use Rattle.std.proofs.Common.{◌≡◌}
use Rattle.write_set.proofs.keyed_rows.Rows.index_rows.Given as goal

-- the rows stay, and the index tells the places of as many as were looked at
abbrev pub invariant-loop : goal.invariant-loop
invariant-loop l = record {
  rows : l.self.rows ≡ l.fn.self.rows;
  told : l.self.indexed ≡ l.counter;
}
