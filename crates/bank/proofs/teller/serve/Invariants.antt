use Rattle.std.proofs.Common.{◌≡◌}
use Rattle.bank.proofs.Common.{ended}
use Rattle.bank.proofs.teller.serve.Given as goal

abbrev pub invariant-loop-number : goal.invariant-loop-number
invariant-loop-number l = record { words : l.client.transaction.words ≡ l.fn.client.transaction.words; all : ended l.tally ≡ l.number }
