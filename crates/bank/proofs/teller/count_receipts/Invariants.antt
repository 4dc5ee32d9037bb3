use Rattle.std.proofs.Common.{◌≡◌}
use Rattle.bank.proofs.Common.{ended}
use Rattle.bank.proofs.teller.count_receipts.Given as goal

abbrev pub invariant-loop-ran : goal.invariant-loop-ran
invariant-loop-ran l = ended l.tally ≡ ended l.fn.tally
