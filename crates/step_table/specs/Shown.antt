-- What a writer has of a table on its way.
use Rattle.std.specs.Prelude.{◌≡◌, ◌⊎◌, ℕ, ◌≤◌, List, [], ◌∷◌, ◌++◌, length, take, Option, Result, Ok, Err}
use Rattle.std.specs.Io.KnownBytes.{Appends}
use Rattle.world_rules.specs.World.{World}
use Rattle.step_table.specs.Rows.{Row}

-- no event was taken beyond a text that is not written: so much of their text has the whole text of all but the last one
abbrev pub StopsAt : (List Row → List ℕ) → List Row → ℕ → Type 0
StopsAt text rows n = (rows ≡ []) ⊎ ((front : List Row) × (last : Row) × (rows ≡ front ++ last ∷ []) × (length (text front) ≤ n))

-- events were taken and their lines written: all that were asked for, or, where a write failed, the first ones and a beginning of their lines, and none behind the one whose line is cut off
abbrev pub Shows : {P A E : Type 0} → (World P → List Row → World P → Type 0) → (World P → List Row → World P → Type 0) → (List Row → List ℕ) → World P → World P → Option (List ℕ) → Option (List ℕ) → Result A E → Type 0
Shows all first text old new written written' (Ok x) = (rows : List Row) × all old rows new × Appends written written' (text rows)
Shows all first text old new written written' (Err e) = (rows : List Row) × (n : ℕ) × first old rows new × StopsAt text rows n × Appends written written' (take n (text rows))
