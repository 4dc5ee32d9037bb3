use Rattle.std.proofs.Common.{◌≡◌, ◌+◌, ◌<◌, ◌≤◌, suc, arith, length, map, take, drop, ◌++◌, List, ap, sym, subst, ◌∙◌, slice_index_or, slice_set}
use Rattle.nest_frames.proofs.Common.{Begins, Moment, forgotten, length-map, refill}
use Rattle.nest_frames.proofs.ForgottenMoments.{all_forgotten, next_forgotten}
use Rattle.nest_frames.proofs.moments.Moments.forget.Goals as goal

pub loop-moment-preserved : goal.loop-moment-preserved
loop-moment-preserved c =
    let i = c.loop-moment.moment-index in
    let all = c.as_mut_slice-moment-items.result.now in
    let here : i < length all = omega (arith, c.loop-moment-test.true) in
    let next : i + 1 ≡ suc i = omega arith in
    ap (λ (m : Moment). slice_set c.loop-moment.moment-items i m) c.at_start.ensures
    ∙ (ap (λ (ms : List Moment). slice_set ms i (forgotten (slice_index_or ms i c.moment-item.result))) c.loop-moment.invariant
    ∙ (next_forgotten forgotten all i c.moment-item.result here
    ∙ ap (λ k. map forgotten (take k all) ++ drop k all) (sym next)))

-- all of them
now_forgotten : (c : goal.After-self-1) → refill c.self.inside.places.len c.self.inside.places.items c.loop-moment.moment-items ≡ map forgotten c.self.inside.places.items
now_forgotten c =
    let all = c.as_mut_slice-moment-items.ensures.value in
    ap (λ n. refill n c.self.inside.places.items c.loop-moment.moment-items) c.self.inside.places.ok.0
    ∙ all_forgotten forgotten c.self.inside.places.items c.loop-moment.moment-items c.loop-moment.moment-index
    (subst (λ (ms : List Moment). length ms ≤ c.loop-moment.moment-index) all c.loop-moment-test.false)
    (c.loop-moment.invariant ∙ ap (λ (ms : List Moment). map forgotten (take c.loop-moment.moment-index ms) ++ drop c.loop-moment.moment-index ms) all)

pub invariant_of-self : goal.invariant_of-self
invariant_of-self c = record {
  few = (let kept = ap (length {A = Moment}) (now_forgotten c) ∙ length-map c.self.inside.places.items forgotten in omega (arith, kept, c.self.invariant.few));
  room = c.self.invariant.room;
}

pub returns-clause-items : goal.returns-clause-items
returns-clause-items c = now_forgotten c ∙ ap (λ (b : Begins). map forgotten b.items) c.self.view_is
