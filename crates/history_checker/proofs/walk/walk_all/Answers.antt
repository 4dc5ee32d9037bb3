use Rattle.std.proofs.Common.{sym, ◌∙◌, arith}
use Rattle.history_checker.proofs.Common.{count_committed}
use Rattle.history_checker.proofs.Steps.Ends.{committed_first}
use Rattle.history_checker.proofs.walk.walk_all.Goals as goal

pub returns-then-is_some-clause-fault : goal.returns-then-is_some-clause-fault
returns-then-is_some-clause-fault c =
    c.ended.ensures.fault
    ∙ committed_first c.args.history.now c.loop-position.position (count_committed c.args.history.now.attempts) c.in_ok-fault.fault c.loop-position.invariant.fault c.in_ok-fault.ensures.fault
    (sym c.is_some.ensures ∙ c.if-is_some.true) (omega (arith, c.loop-position-test.true, c.requires.slots.size))
