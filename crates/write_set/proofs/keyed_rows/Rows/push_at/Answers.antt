use Rattle.std.proofs.Common.{◌≡◌, ◌<◌, ◌^◌, ◌+◌, List, None, Some, length, nat_eq, slice_get, subst, sym, arith}
use Rattle.write_set.proofs.Common.{AreHeld, Indexed, IsDistinct, Puts, Row, lookup, set_value_at}
use Rattle.std.proofs.lemmas.Cmp.{nat_eq_equiv}
use Rattle.indexmap.proofs.CallerLemmas.{keys-with_value_at, updates-with_value_at}
use Rattle.write_set.proofs.Held.{count, got_both, held-put}
use Rattle.write_set.proofs.keyed_rows.Rows.push_at.Goals as goal

pub invariant_of-self-2 : goal.invariant_of-self-2
invariant_of-self-2 c =
    let len = c.self.inside.len in
    let index = c.self.inside.index in
    let word = c.args.row.word in
    let here = subst (λ (k : Indexed). slice_get k.words c.args.at ≡ Some word) (sym c.self.view_is) c.requires.here in
    let none = subst (λ (k : Indexed). lookup word k.rows ≡ None) (sym c.self.view_is) c.requires.none in
    let many = subst (λ (k : Indexed). 8 < length k.rows) (sym c.self.view_is) c.requires.many in
    let is_len = count c.self.inside.list.items c.self.inside.len c.self.inside.index.entries c.self.inside.indexed c.self.invariant in
    let all = c.self.invariant.many (omega (arith, many, is_len)) in
    let entry = got_both index.entries c.args.at word c.index_mut.result.now here c.index_mut.ensures.value in
    let updates = updates-with_value_at index c.args.at len nat_eq_equiv c.self.invariant.distinct word c.index_mut.result.now entry in
    let puts : Puts index.entries (set_value_at index.entries c.args.at len) word len = record {
      here = updates.1;
      others = updates.2;
      distinct = subst (IsDistinct nat_eq) (sym (keys-with_value_at index c.args.at len)) c.self.invariant.distinct;
    } in
    let mask : c.args.row.mask < 2 ^ 64 = omega (arith, c.well_formed) in
    let value : c.args.row.value < 2 ^ 64 = omega (arith, c.well_formed) in
    subst (λ (list : List Row). AreHeld list (len + 1) (set_value_at index.entries c.args.at len) (len + 1)) (sym c.in_ok-put_behind.ensures.ok)
    (held-put c.self.inside.list.items c.self.inside.len c.self.inside.index.entries c.self.inside.indexed c.self.invariant c.args.row (set_value_at index.entries c.args.at len) none mask value all puts)
