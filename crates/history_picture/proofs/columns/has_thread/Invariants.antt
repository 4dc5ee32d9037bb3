use Rattle.std.proofs.Common.{◌≡◌, drop}
use Rattle.history_picture.proofs.Common.{has_thread}
use Rattle.history_picture.proofs.columns.has_thread.Given as goal

abbrev pub invariant-loop-attempt : goal.invariant-loop-attempt
invariant-loop-attempt l = has_thread l.thread (drop l.attempt-index l.attempts) ≡ has_thread l.thread l.attempts
