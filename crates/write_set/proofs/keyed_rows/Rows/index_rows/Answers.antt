use Rattle.std.proofs.Common.{◌≡◌, length, refl, ap, sym, arith, ◌∙◌}
use Rattle.write_set.proofs.Common.{Indexed}
use Rattle.write_set.proofs.Held.{count}
use Rattle.write_set.proofs.keyed_rows.Rows.index_rows.Goals as goal

pub loop-init : goal.loop-init
loop-init c = record { rows = refl; told = ap (λ (k : Indexed). k.indexed) (sym c.self.view_is) }

pub index_next-requires : goal.index_next-requires
index_next-requires c =
    let is_len : length c.args.self.now.rows ≡ c.self.inside.len = ap (λ (k : Indexed). length k.rows) (sym c.self.view_is) ∙ count c.self.inside.list.items c.self.inside.len c.self.inside.index.entries c.self.inside.indexed c.self.invariant in
    let same : length c.loop.self.rows ≡ length c.args.self.now.rows = ap length c.loop.invariant.rows in
    omega (arith, is_len, same, c.loop.invariant.told, c.loop-test.true)

pub returns-in_err-index_next-clause-rows : goal.returns-in_err-index_next-clause-rows
returns-in_err-index_next-clause-rows c = c.in_err-index_next.ensures.rows ∙ c.loop.invariant.rows

pub loop-preserved : goal.loop-preserved
loop-preserved c = record {
  rows = c.in_ok-index_next.ensures.rows ∙ c.loop.invariant.rows;
  told = omega (arith, c.in_ok-index_next.ensures.one, c.loop.invariant.told);
}

pub returns-clause-rows : goal.returns-clause-rows
returns-clause-rows c = c.loop.invariant.rows

pub returns-clause-all : goal.returns-clause-all
returns-clause-all c =
    let is_len : length c.args.self.now.rows ≡ c.self.inside.len = ap (λ (k : Indexed). length k.rows) (sym c.self.view_is) ∙ count c.self.inside.list.items c.self.inside.len c.self.inside.index.entries c.self.inside.indexed c.self.invariant in
    let same : length c.loop.self.rows ≡ length c.args.self.now.rows = ap length c.loop.invariant.rows in
    omega (arith, is_len, same, c.loop.invariant.told, c.loop-test.false)
