use Rattle.std.proofs.Common.{◌≡◌, [], drop, sum_by, ap, arith}
use Rattle.history_checker.proofs.Common.{again_count, common_steps}
use Rattle.history_checker.proofs.rows.after_all.Goals as goal

pub returns : goal.returns
returns c =
    let i = c.loop-again.invariant in
    let past : drop c.loop-again.again-index c.args.restarts.now ≡ [] = grind (arith, common_steps) in
    let none : sum_by again_count (drop c.loop-again.again-index c.args.restarts.now) ≡ 0 = ap (sum_by again_count) past in
    omega (arith, i.told, i.most, none)
