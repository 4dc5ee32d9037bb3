use Rattle.std.proofs.Common.{◌≡◌, ◌*◌}
use Rattle.bank.proofs.Common.{TRANSFERS, ended}
use Rattle.bank.proofs.branch.all_of.Given as goal

abbrev pub invariant-loop-tally : goal.invariant-loop-tally
invariant-loop-tally l = ended l.all ≡ l.tally-index * TRANSFERS
