use Rattle.std.proofs.Common.{◌≡◌, ℕ, ◌+◌, ◌<◌, Option, None, Some, IsSome, get_or, length, take, unwrap_or, ap, arith, refl, subst, sym, below_more}
use Rattle.tx_map.proofs.Common.{sum_by_more, told_in_all}
use Rattle.tx_map.proofs.added_by.Goals as goal

pub loop-by_one-init : goal.loop-by_one-init
loop-by_one-init c = record { tell = λ k h. absurd (omega (arith, h)); sum = refl }

pub loop-by_one-preserved : goal.loop-by_one-preserved
loop-by_one-preserved c =
    let told = c.args.told.now in
    let i = c.loop-by_one.by_one-index in
    let more = c.in_ok-more.more in
    let is : get_or told i None ≡ Some more = c.in_ok-more.was in
    let few : i < length told = omega arith in
    let step : told_in_all (take (i + 1) told) ≡ told_in_all (take i told) + unwrap_or (get_or told i None) 0 = sum_by_more (λ (o : Option ℕ). unwrap_or o 0) told i None few in
    let own : unwrap_or (get_or told i None) 0 ≡ more = ap (λ (o : Option ℕ). unwrap_or o 0) is in
    record {
      tell = below_more (λ (k : ℕ). IsSome (get_or told k None)) i c.loop-by_one.invariant.tell (subst IsSome (sym is) refl);
      sum = omega (arith, step, own, c.loop-by_one.invariant.sum, c.saturating_add-added.ensures);
    }
