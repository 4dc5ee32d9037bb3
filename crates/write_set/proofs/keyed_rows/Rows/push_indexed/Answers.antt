use Rattle.std.proofs.Common.{◌≡◌, ◌<◌, ◌≤◌, ◌^◌, ◌+◌, ◌++◌, ◌∷◌, [], List, None, length, take, subst, sym, arith}
use Rattle.write_set.proofs.Common.{AreHeld, Index, Indexed, Row, lookup}
use Rattle.write_set.proofs.Held.{count, held-behind, held-put}
use Rattle.write_set.proofs.keyed_rows.Rows.push_indexed.Goals as goal

pub invariant_of-self-in_err-insert : goal.invariant_of-self-in_err-insert
invariant_of-self-in_err-insert c =
    let len = c.self.inside.len in
    let none = subst (λ (k : Indexed). lookup c.args.row.word k.rows ≡ None) (sym c.self.view_is) c.requires.none in
    let all = subst (λ (k : Indexed). length k.rows ≤ k.indexed) (sym c.self.view_is) c.requires.all in
    let is_len = count c.self.inside.list.items c.self.inside.len c.self.inside.index.entries c.self.inside.indexed c.self.invariant in
    let mask : c.args.row.mask < 2 ^ 64 = omega (arith, c.well_formed) in
    let value : c.args.row.value < 2 ^ 64 = omega (arith, c.well_formed) in
    let held = held-behind c.self.inside.list.items c.self.inside.len c.self.inside.index.entries c.self.inside.indexed c.self.invariant c.args.row len none mask value (omega (arith, all, is_len)) (omega arith) (λ l. omega arith) in
    subst (λ (list : List Row). AreHeld list len c.insert.new.self.entries len) (sym c.in_ok-put_behind.ensures.ok)
    (subst (λ (index : Index). AreHeld (take len c.self.inside.list.items ++ c.args.row ∷ []) len index len) (sym c.in_err-insert.ensures.err) held)

pub invariant_of-self-2 : goal.invariant_of-self-2
invariant_of-self-2 c =
    let len = c.self.inside.len in
    let none = subst (λ (k : Indexed). lookup c.args.row.word k.rows ≡ None) (sym c.self.view_is) c.requires.none in
    let all = subst (λ (k : Indexed). length k.rows ≤ k.indexed) (sym c.self.view_is) c.requires.all in
    let is_len = count c.self.inside.list.items c.self.inside.len c.self.inside.index.entries c.self.inside.indexed c.self.invariant in
    let mask : c.args.row.mask < 2 ^ 64 = omega (arith, c.well_formed) in
    let value : c.args.row.value < 2 ^ 64 = omega (arith, c.well_formed) in
    let updates = c.in_ok-insert.ensures.updates in
    subst (λ (list : List Row). AreHeld list (len + 1) c.insert.new.self.entries (len + 1)) (sym c.in_ok-put_behind.ensures.ok)
    (held-put c.self.inside.list.items c.self.inside.len c.self.inside.index.entries c.self.inside.indexed c.self.invariant c.args.row c.insert.new.self.entries none mask value (omega (arith, all, is_len)) (record { here = updates.1; others = updates.2; distinct = c.in_ok-insert.ensures.unique }))
