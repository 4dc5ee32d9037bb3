-- What two attempts have in common that the same answers come of.
use Rattle.std.specs.Prelude.{ℕ, List, [], ◌∷◌}
use Rattle.tx_attempts.specs.declared.attempt.Again.{Again}

-- after how many calls inner blocks ran again, and from which arena
abbrev pub went_on_from : List Again → List (ℕ × List ℕ)
went_on_from [] = []
went_on_from (r ∷ rest) = (r.kept, r.arena) ∷ went_on_from rest
