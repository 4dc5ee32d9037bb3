use Rattle.std.proofs.Common.{◌≡◌, ◌<◌, length, slice_get, None, Some, subst, IfNone, IfSome}
use Rattle.write_set.proofs.Common.{AreRows, Indexed, keys_of, lookup}
use Rattle.write_set.proofs.Held.{found_here, front, none_here}
use Rattle.write_set.proofs.keyed_rows.Rows.find.Goals as goal

pub returns-clause-here : goal.returns-clause-here
returns-clause-here c =
    subst (λ (k : Indexed). IfSome c.get_index_of.result (λ at. slice_get k.words at ≡ Some c.args.word)) c.self.view_is
    (found_here (keys_of c.self.inside.index.entries) c.args.word c.get_index_of.result c.get_index_of.ensures.index)

pub returns-clause-none : goal.returns-clause-none
returns-clause-none c =
    subst (λ (k : Indexed). IfNone c.get_index_of.result (8 < length k.rows → lookup c.args.word k.rows ≡ None)) c.self.view_is
    (none_here c.self.inside.list.items c.self.inside.len c.self.inside.index.entries c.self.inside.indexed c.self.invariant c.args.word c.get_index_of.result c.get_index_of.ensures.index)

pub returns-clause-rows : goal.returns-clause-rows
returns-clause-rows c = subst (λ (k : Indexed). AreRows k.rows) c.self.view_is (front c.self.inside.list.items c.self.inside.len c.self.inside.index.entries c.self.inside.indexed c.self.invariant)
