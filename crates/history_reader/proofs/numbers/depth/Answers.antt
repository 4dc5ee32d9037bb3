use Rattle.std.proofs.Common.{◌≡◌, ℕ, ◌≤◌, Result, Ok, ap, sym, ◌∙◌, arith}
use Rattle.history_reader.proofs.Common.{FaultKind, Depth, MAX_DEPTH, depth, depth_from, near_is, ranged, same_depth, ◌>>=◌}
use Rattle.history_reader.proofs.numbers.depth.Goals as goal

pub returns : goal.returns
unfolding depth
returns c =
    let n = c.in_ok-blocks.field-0 in
    let limit : c.from.result ≡ MAX_DEPTH = c.from.ensures in
    let low : 1 ≤ n = c.in_ok-blocks.ensures.low in
    let few : n ≤ MAX_DEPTH = omega (arith, limit, c.in_ok-blocks.ensures.high) in
    let read = c.in_ok-blocks.ensures.value ∙ ap (λ (k : ℕ). ranged 1 k c.args.field.now) limit in
    let same : c.in-Some.depth ≡ depth_from n = same_depth c.in-Some.depth (depth_from n) (c.in-Some.ensures.value ∙ sym (near_is n low few)) in
    ap (λ (d : Depth). Ok d) same ∙ ap (λ (r : Result ℕ FaultKind). r >>= λ k. Ok (depth_from k)) read
