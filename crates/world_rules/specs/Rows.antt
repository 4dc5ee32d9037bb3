-- The attempts that have ended, and lists of attempts.
use Rattle.std.specs.Prelude.{◌≡◌, ℕ, ◌+◌, ◌-◌, ◌≤◌, List, [], ◌∷◌, Vec, vec_len, vec_capacity}
use Rattle.std.specs.declared.alloc.Global.{Global}
use Rattle.tx_attempts.specs.declared.attempt.Attempt.{Attempt}
use Rattle.tx_attempts.specs.declared.attempt.Outcome.TheVariants.{Unfinished}

pub record Rows : Type 0 where
  pub ended : List Attempt  -- in the order in which they ended
  pub room : ℕ  -- how many more there is room for

-- a vector of them
abbrev pub rows_in : Vec Attempt Global → Rows
rows_in v = record { ended = v.items; room = vec_capacity v - vec_len v }

-- each is of an actor before that of the next ones
abbrev pub AreFrom : ℕ → List Attempt → Type 0
AreFrom thread [] = Unit {0}
AreFrom thread (a ∷ rest) = (thread ≤ a.thread) × AreFrom (a.thread + 1) rest

-- none of them has ended
abbrev pub AreUnfinished : List Attempt → Type 0
AreUnfinished [] = Unit {0}
AreUnfinished (a ∷ rest) = (a.outcome ≡ Unfinished) × AreUnfinished rest

-- each of them has ended
abbrev pub AreEnded : List Attempt → Type 0
AreEnded [] = Unit {0}
AreEnded (a ∷ rest) = (a.outcome ≡ Unfinished → ⊥) × AreEnded rest

-- open attempts: at most one of each actor, by actor
pub record AreOpen (attempts : List Attempt) : Type 0 where
  pub by_actor : AreFrom 0 attempts
  pub unfinished : AreUnfinished attempts
