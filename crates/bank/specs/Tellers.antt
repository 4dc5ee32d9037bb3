-- What tellers come to.
use Rattle.std.specs.Prelude.{◌≡◌, ℕ, ◌+◌, List, slice_get, Result, Ok, Some}
use Rattle.bank.specs.declared.fault.Fault.{Fault}
use Rattle.bank.specs.declared.teller.Tally.{Tally}
use Rattle.bank.specs.declared.teller.TheConstants.{TRANSFERS}

-- how many transfers were made or cancelled
abbrev pub ended : Tally → ℕ
ended t = t.made + t.cancelled

-- each teller has made or cancelled each of its transfers
abbrev pub AllServed : List (Result Tally Fault) → Type 0
AllServed served = (n : ℕ) (t : Tally) → slice_get served n ≡ Some (Ok t) → ended t ≡ TRANSFERS
