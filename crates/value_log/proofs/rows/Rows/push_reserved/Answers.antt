use Rattle.std.proofs.Common.{◌<◌, ◌+◌, ◌++◌, [], ◌∷◌, ℕ, List, add-one, length, length-take-le, slice_set, take, sym, ap, subst, arith, ◌∙◌}
use Rattle.value_log.proofs.Common.{Filled, IsFilled, LogRow, length-set}
use Rattle.std.proofs.Math.Seq.{take-suc-set}
use Rattle.value_log.proofs.rows.Rows.push_reserved.Goals as goal

free : (places : List LogRow) (len capacity : ℕ) → IsFilled places len capacity → length (take len places) < capacity → len < capacity
free places len capacity is room = omega (arith, room, length-take-le len places (omega (arith, is.all, is.within)))

pub invariant_of-self : goal.invariant_of-self
invariant_of-self c =
    let places = c.self.inside.places.items in
    let len = c.self.inside.len in
    let capacity = c.self.inside.capacity in
    let below = free places len capacity c.self.invariant (subst (λ (f : Filled). length f.items < f.capacity) (sym c.self.view_is) c.requires) in
    record {
      all = ap length c.set.ensures ∙ (length-set places len c.args.row ∙ c.self.invariant.all);
      within = omega (arith, below);
      some = c.self.invariant.some;
      blocks = c.self.invariant.blocks;
    }

pub returns-clause-items : goal.returns-clause-items
returns-clause-items c =
    let places = c.self.inside.places.items in
    let len = c.self.inside.len in
    let below = free places len c.self.inside.capacity c.self.invariant (subst (λ (f : Filled). length f.items < f.capacity) (sym c.self.view_is) c.requires) in
    ap (take (len + 1)) c.set.ensures
    ∙ (ap (λ (n : ℕ). take n (slice_set places len c.args.row)) (add-one len) ∙ (take-suc-set places len c.args.row (omega (arith, below, c.self.invariant.all))
    ∙ ap (λ (f : Filled). f.items ++ c.args.row ∷ []) c.self.view_is))
