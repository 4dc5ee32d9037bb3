use Rattle.std.proofs.Common.{◌≡◌, ℕ, None, add-one, sym, subst, take}
use Rattle.write_set.proofs.Common.{lookup}
use Rattle.write_set.proofs.Places.{none_past}
use Rattle.write_set.proofs.keyed_rows.Rows.scan.Goals as goal

pub loop-place-preserved : goal.loop-place-preserved
loop-place-preserved c =
    let rows = c.args.self.now.rows in
    subst (λ (n : ℕ). lookup c.args.word (take n rows) ≡ None) (sym (add-one c.loop-place.place))
    (none_past rows c.args.word c.loop-place.place c.row.result c.loop-place.invariant c.row.ensures c.if-row-word.false)
