use Rattle.std.proofs.Common.{◌≤◌, length, length-take-le, take, sym, ap, subst, arith, ◌∙◌}
use Rattle.value_log.proofs.Common.{Filled, take_all}
use Rattle.std.proofs.lemmas.List.{take-take}
use Rattle.value_log.proofs.rows.Rows.truncate.Goals as goal

pub returns-then-len-self-clause-items : goal.returns-then-len-self-clause-items
returns-then-len-self-clause-items c =
    sym (take-take c.args.len c.self.inside.len c.self.inside.places.items (omega (arith, c.if-len-self.true)))
    ∙ ap (λ (f : Filled). take c.args.len f.items) c.self.view_is

pub returns-else-len-self-clause-items : goal.returns-else-len-self-clause-items
returns-else-len-self-clause-items c =
    let places = c.self.inside.places.items in
    let len = c.self.inside.len in
    let long = length-take-le len places (omega (arith, c.self.invariant.all, c.self.invariant.within)) in
    let few = subst (λ (f : Filled). length f.items ≤ c.args.len) c.self.view_is (omega (arith, long, c.if-len-self.false)) in
    sym (take_all c.args.len c.args.self.now.items few)
