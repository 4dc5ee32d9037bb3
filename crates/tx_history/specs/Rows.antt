-- The rows of a history's text.
use Rattle.std.specs.Prelude.{◌≡◌, ℕ, List, [], ◌∷◌}
use Rattle.hex.specs.Hex.{IsBytes}
use Rattle.tx_attempts.specs.declared.attempt.Attempt.{Attempt}
use Rattle.tx_history.specs.Bounds.{AttemptFits, IsWord}
use Rattle.tx_history.specs.Histories.{attempt_lines, first_lines, last_line}
use Rattle.tx_history.specs.declared.history.History.{History}
use Rattle.tx_history.specs.declared.parts.Row.{Row}
use Rattle.tx_history.specs.declared.parts.Row.TheVariants.{Start, Tried, Last}

abbrev pub row_lines : Row → List ℕ
row_lines (Start version memory) = first_lines version memory.now
row_lines (Tried attempt) = attempt_lines attempt.now
row_lines (Last clock bytes) = last_line clock bytes.now

-- each number and byte that its lines tell is one of its type
abbrev pub RowFits : Row → Type 0
RowFits (Start version memory) = IsBytes memory.now
RowFits (Tried attempt) = AttemptFits attempt.now
RowFits (Last clock bytes) = IsWord clock × IsBytes bytes.now

-- the row of the clock and the memory after the run
abbrev pub IsLastOf : History → Row → Type 0
IsLastOf h (Start version memory) = ⊥
IsLastOf h (Tried attempt) = ⊥
IsLastOf h (Last clock bytes) = (clock ≡ h.clock) × (bytes.now ≡ h.bytes)

-- the row of the attempt
abbrev pub IsTriedOf : Attempt → Row → Type 0
IsTriedOf a (Start version memory) = ⊥
IsTriedOf a (Tried attempt) = attempt.now ≡ a
IsTriedOf a (Last clock bytes) = ⊥

-- the row of the version and the memory before the run
abbrev pub IsStartOf : History → Row → Type 0
IsStartOf h (Start version memory) = (version ≡ h.version) × (memory.now ≡ h.memory)
IsStartOf h (Tried attempt) = ⊥
IsStartOf h (Last clock bytes) = ⊥

-- those of these attempts, in order, and then the last row
abbrev pub AreRest : History → List Attempt → List Row → Type 0
AreRest h attempts [] = ⊥
AreRest h [] (row ∷ []) = IsLastOf h row
AreRest h [] (row ∷ more ∷ rest) = ⊥
AreRest h (a ∷ attempts) (row ∷ rest) = IsTriedOf a row × AreRest h attempts rest

-- the rows of a history, in order
abbrev pub AreRowsOf : History → List Row → Type 0
AreRowsOf h [] = ⊥
AreRowsOf h (row ∷ rest) = IsStartOf h row × AreRest h h.attempts rest
