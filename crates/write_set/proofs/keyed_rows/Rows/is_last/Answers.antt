use Rattle.std.proofs.Common.{◌≡◌, ◌-◌, ℕ, slice_get, Some, subst}
use Rattle.write_set.proofs.Common.{eqb-true}
use Rattle.write_set.proofs.Places.{indexed}
use Rattle.write_set.proofs.keyed_rows.Rows.is_last.Goals as goal

pub returns-then-len-gt0 : goal.returns-then-len-gt0
returns-then-len-gt0 c same =
    let rows = c.args.self.now.rows in
    let here = subst (λ (n : ℕ). slice_get rows (n - 1) ≡ Some c.row.result) c.len-len.ensures.len c.row.ensures in
    indexed rows c.args.word _ c.row.result c.len-len.ensures.rows.apart here (eqb-true c.row.result.word c.args.word same)
