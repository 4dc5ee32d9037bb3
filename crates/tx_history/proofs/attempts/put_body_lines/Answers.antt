use Rattle.std.proofs.Common.{ℕ, length, min, ap, ◌∙◌}
use Rattle.tx_history.proofs.CallLines.{none_told, told_all, told_next}
use Rattle.tx_history.proofs.attempts.put_body_lines.Goals as goal

pub loop-again-init : goal.loop-again-init
loop-again-init g c = none_told _ c.args.calls.now c.args.restarts.now

pub loop-again-preserved : goal.loop-again-preserved
loop-again-preserved g c =
    let left = c.loop-again.left.now in
    told_next _ _ _ _ c.args.calls.now c.args.restarts.now c.loop-again.again-index c.loop-again.told c.min-count.result left _ _ c.again-item.result _ c.loop-again-test.true c.again-item.is
    (c.min-count.ensures ∙ ap (λ (n : ℕ). min n (length left)) c.saturating_sub.ensures) c.split_at.ensures.front c.split_at.ensures.back c.loop-again.invariant c.put_calls.ensures c.put_again.ensures

pub returns : goal.returns
returns g c =
    told_all _ _ _ c.args.calls.now c.args.restarts.now c.loop-again.again-index c.loop-again.told c.loop-again.left.now c.loop-again-test.false c.loop-again.invariant c.put_calls-2.ensures
