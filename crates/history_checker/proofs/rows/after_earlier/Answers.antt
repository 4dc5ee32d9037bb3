use Rattle.std.proofs.Common.{◌≡◌, suc, List, [], drop, sum_by, ap, arith}
use Rattle.history_checker.proofs.Common.{Again, again_count, before, common_steps}
use Rattle.history_checker.proofs.rows.after_earlier.Goals as goal

pub returns : goal.returns
returns c =
    let i = c.loop-again.invariant in
    let past : drop c.loop-again.again-index c.args.restarts.now ≡ [] = grind (arith, common_steps) in
    let none : sum_by again_count (before (suc c.args.place) (drop c.loop-again.again-index c.args.restarts.now)) ≡ 0 = ap (λ (rs : List Again). sum_by again_count (before (suc c.args.place) rs)) past in
    omega (arith, i.told, i.most, none)
