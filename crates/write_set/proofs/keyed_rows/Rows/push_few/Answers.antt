use Rattle.std.proofs.Common.{◌≡◌, ◌<◌, ◌^◌, ◌+◌, ◌++◌, ◌∷◌, [], ℕ, List, None, length, take, subst, sym, arith}
use Rattle.write_set.proofs.Common.{AreHeld, Indexed, Row, lookup}
use Rattle.write_set.proofs.Held.{count, held-push}
use Rattle.write_set.proofs.keyed_rows.Rows.push_few.Goals as goal

pub invariant_of-self-2 : goal.invariant_of-self-2
invariant_of-self-2 c =
    let len = c.self.inside.len in
    let index = c.self.inside.index.entries in
    let told = c.self.inside.indexed in
    let none = subst (λ (k : Indexed). lookup c.args.row.word k.rows ≡ None) (sym c.self.view_is) c.requires.none in
    let few = subst (λ (k : Indexed). length k.rows < 8) (sym c.self.view_is) c.requires.few in
    let is_len = count c.self.inside.list.items c.self.inside.len c.self.inside.index.entries c.self.inside.indexed c.self.invariant in
    let mask : c.args.row.mask < 2 ^ 64 = omega (arith, c.well_formed) in
    let value : c.args.row.value < 2 ^ 64 = omega (arith, c.well_formed) in
    let held = held-push c.self.inside.list.items c.self.inside.len c.self.inside.index.entries c.self.inside.indexed c.self.invariant c.args.row none mask value (omega (arith, few, is_len)) in
    subst (λ (list : List Row). AreHeld list (len + 1) index c.min-self-inside.result) (sym c.in_ok-put_behind.ensures.ok)
    (subst (λ (n : ℕ). AreHeld (take len c.self.inside.list.items ++ c.args.row ∷ []) (len + 1) index n) (sym c.min-self-inside.ensures) held)
