-- Attempts and the commits of others: those that ended in a conflict, and those within which blocks ran again.
use Rattle.std.specs.Prelude.{◌≡◌, ℕ, ◌+◌, ◌*◌, ◌<◌, ◌≤◌, All, List, length}
use Rattle.tx_attempts.specs.declared.attempt.Attempt.{Attempt}
use Rattle.tx_attempts.specs.declared.attempt.Outcome.TheVariants.{Conflict}

-- the clock has moved on from where each that ended in a conflict had read
abbrev pub AreOutrun : ℕ → List Attempt → Type 0
AreOutrun clock attempts = All (λ (a : Attempt). a.outcome ≡ Conflict → 2 * a.at < clock) attempts

-- it reads at least as many commits past its begin as it tells of blocks that ran again
abbrev pub IsDisturbed : Attempt → Type 0
IsDisturbed a = a.began + length a.restarts ≤ a.at

abbrev pub AreDisturbed : List Attempt → Type 0
AreDisturbed attempts = All IsDisturbed attempts
