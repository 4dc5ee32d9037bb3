-- The open attempt, lent.
use Rattle.std.specs.Prelude.{Option}
use Rattle.std.specs.Borrow.{LendsIf, MutBor, Fml}
use Rattle.tx_runs.specs.OpenAttempts.{Open}
use Rattle.tx_runs.specs.Currents.{Current, Within}
use Rattle.tx_runs.specs.contracts.current.Current.{the_row as current_row}
use Rattle.tx_runs.specs.contracts.open_attempt.OpenAttempt.{the_row as attempt_row}

-- where an attempt is open, it is left as the borrower leaves it
abbrev pub LendsWithin : MutBor Current → Option (MutBor Open) → Fml
LendsWithin c lent = LendsIf current_row attempt_row c lent Within c.now
