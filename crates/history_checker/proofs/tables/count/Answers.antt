use Rattle.std.proofs.Common.{◌≡◌, get_or, ap, ◌∙◌, arith}
use Rattle.history_checker.proofs.Common.{Attempt, is_committed, one_where}
use Rattle.history_checker.proofs.Steps.Tables.{count_next}
use Rattle.history_checker.proofs.tables.count.Goals as goal

pub loop-attempt-preserved : goal.loop-attempt-preserved
loop-attempt-preserved c =
    let a = c.attempt-item.result in
    let one : c.one_where-count.result ≡ one_where (is_committed (get_or c.args.attempts.now c.loop-attempt.attempt-index a).outcome) =
    c.one_where-count.ensures.value ∙ (ap one_where c.is_committed.ensures ∙ ap (λ (x : Attempt). one_where (is_committed x.outcome)) c.attempt-item.is) in
    let next = count_next c.args.attempts.now c.loop-attempt.attempt-index a c.loop-attempt-test.true in
    record {
      counted = omega (arith, one, next, c.loop-attempt.invariant.counted);
      few = omega (arith, c.one_where-count.ensures.most, c.loop-attempt.invariant.few);
    }
