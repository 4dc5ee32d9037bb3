use Rattle.std.proofs.Common.{◌≡◌, drop}
use Rattle.history_checker.proofs.Common.{is_waiting}
use Rattle.history_checker.proofs.endings.is_waiting.Given as goal

abbrev pub invariant-loop-attempt : goal.invariant-loop-attempt
invariant-loop-attempt l = is_waiting l.count l.attempts ≡ is_waiting l.count (drop l.attempt-index l.attempts)
