use Rattle.std.proofs.Common.{◌<◌, length, subst, sym, arith}
use Rattle.write_set.proofs.Common.{Indexed}
use Rattle.write_set.proofs.Held.{count, got_within, held-next}
use Rattle.write_set.proofs.keyed_rows.Rows.index_next.Goals as goal

pub invariant_of-self-2 : goal.invariant_of-self-2
invariant_of-self-2 c =
    let list = c.self.inside.list.items in
    let told = c.self.inside.indexed in
    let x = c.index.result.now in
    let more = subst (λ (k : Indexed). k.indexed < length k.rows) (sym c.self.view_is) c.requires in
    let is_len = count c.self.inside.list.items c.self.inside.len c.self.inside.index.entries c.self.inside.indexed c.self.invariant in
    let got = got_within list told x x (omega (arith, more, is_len, c.self.invariant.within)) c.index.ensures in
    let updates = c.in_ok-insert.ensures.updates in
    held-next c.self.inside.list.items c.self.inside.len c.self.inside.index.entries c.self.inside.indexed c.self.invariant x c.insert.new.self.entries got (record { here = updates.1; others = updates.2; distinct = c.in_ok-insert.ensures.unique })
