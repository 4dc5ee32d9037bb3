use Rattle.std.proofs.Common.{◌≡◌, None, take}
use Rattle.write_set.proofs.Common.{lookup}
use Rattle.write_set.proofs.keyed_rows.Rows.scan.Given as goal

abbrev pub invariant-loop-place : goal.invariant-loop-place
invariant-loop-place l = lookup l.word (take l.place l.self.rows) ≡ None
