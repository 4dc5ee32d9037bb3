use Rattle.std.proofs.Common.{◌≡◌, ◌<◌, ◌^◌, ◌++◌, ◌⊎◌, inl, inr, ℕ, [], ◌∷◌, None, take, ap, subst, arith, ◌∙◌}
use Rattle.write_set.proofs.Common.{AreRows, Indexed, lookup}
use Rattle.write_set.proofs.Held.{front, got_within, held-again, none_behind, rows_again}
use Rattle.write_set.proofs.keyed_rows.Rows.add_again.Goals.{then-place-ge-FEW_ROWS, else-place-ge-FEW_ROWS}
use Rattle.write_set.proofs.keyed_rows.Rows.add_again.Goals as goal

pub returns-then-place-len-clause-rows : goal.returns-then-place-len-clause-rows
returns-then-place-len-clause-rows c = subst (λ (k : Indexed). AreRows k.rows) c.self.view_is (front c.self.inside.list.items c.self.inside.len c.self.inside.index.entries c.self.inside.indexed c.self.invariant)

pub returns-then-index-row-clause-rows : goal.returns-then-index-row-clause-rows
returns-then-index-row-clause-rows c = subst (λ (k : Indexed). AreRows k.rows) c.self.view_is (front c.self.inside.list.items c.self.inside.len c.self.inside.index.entries c.self.inside.indexed c.self.invariant)

pub returns-clause-rows : goal.returns-clause-rows
returns-clause-rows c = subst (λ (k : Indexed). AreRows k.rows) c.self.view_is (front c.self.inside.list.items c.self.inside.len c.self.inside.index.entries c.self.inside.indexed c.self.invariant)

pub invariant_of-self : goal.invariant_of-self
invariant_of-self c =
    let list = c.self.inside.list.items in
    let len = c.self.inside.len in
    let r = c.index.result.now in
    let got = got_within list len r r (omega (arith, c.if-place-len.false, c.len.ensures)) c.index.ensures in
    let may : (len < 8) ⊎ (len < c.self.inside.indexed) = elim c.if-place-ge-FEW_ROWS.branch [
      | then-place-ge-FEW_ROWS w ↦ inr (grind (arith, w.value-is, c.if-place-self.false))
      | else-place-ge-FEW_ROWS w ↦ inl (omega (arith, w.if-place-ge-FEW_ROWS.false))
    ] in
    let mask : c.args.row.mask < 2 ^ 64 = omega (arith, c.well_formed) in
    let value : c.args.row.value < 2 ^ 64 = omega (arith, c.well_formed) in
    held-again c.self.inside.list.items c.self.inside.len c.self.inside.index.entries c.self.inside.indexed c.self.invariant r c.args.row got c.if-index-row.false mask value may

pub returns-clause-added : goal.returns-clause-added
returns-clause-added c joined =
    let list = c.self.inside.list.items in
    let len = c.self.inside.len in
    let r = c.index.result.now in
    let got = got_within list len r r (omega (arith, c.if-place-len.false, c.len.ensures)) c.index.ensures in
    let none = subst (λ (word : ℕ). lookup word (take len list) ≡ None) c.if-index-row.false (none_behind c.self.inside.list.items c.self.inside.len c.self.inside.index.entries c.self.inside.indexed c.self.invariant r got) in (
      subst (λ (k : Indexed). lookup c.args.row.word k.rows ≡ None) c.self.view_is none,
      rows_again list len r c.args.row got ∙ ap (λ (k : Indexed). k.rows ++ c.args.row ∷ []) c.self.view_is,
    )
