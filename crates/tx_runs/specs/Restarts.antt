-- How often inner blocks of attempts ran again.
use Rattle.std.specs.Prelude.{ℕ, ◌≤◌, List, [], ◌∷◌, length}
use Rattle.tx_attempts.specs.declared.attempt.Attempt.{Attempt}

-- each of them tells of so many at most
abbrev pub RestartAtMost : ℕ → List Attempt → Type 0
RestartAtMost most [] = Unit {0}
RestartAtMost most (a ∷ rest) = (length a.restarts ≤ most) × RestartAtMost most rest
