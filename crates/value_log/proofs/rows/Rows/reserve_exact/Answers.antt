use Rattle.std.proofs.Common.{◌++◌, List, take, ap, arith, ◌∙◌}
use Rattle.value_log.proofs.Common.{Filled, LogRow, take_all}
use Rattle.std.proofs.lemmas.List.{take-append-le}
use Rattle.value_log.proofs.rows.Rows.reserve_exact.Goals as goal

pub returns-clause-items : goal.returns-clause-items
returns-clause-items c =
    let places = c.self.inside.places.items in
    let len = c.self.inside.len in
    let joined = c.in_ok-resize.ensures.ok in
    let all = take_all c.in_ok-capacity.capacity places (omega (arith, c.self.invariant.all, c.if-capacity-self.false)) in
    ap (take len) (joined.1 ∙ ap (λ (front : List LogRow). front ++ joined.0) all)
    ∙ (take-append-le len places joined.0 (omega (arith, c.self.invariant.all, c.self.invariant.within)) ∙ ap (λ (f : Filled). f.items) c.self.view_is)
