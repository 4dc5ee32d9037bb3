-- A player and the begins of its open inner blocks, by the calls of its attempt.
use Rattle.std.specs.Prelude.{◌≡◌, ℕ, suc, ◌≤◌, List, [], ◌∷◌, length, take}
use Rattle.tx_attempts.specs.declared.attempt.CallRecord.{CallRecord}
use Rattle.tx_attempts.specs.Alone.{player_then}
use Rattle.tx_player.specs.Rules.{Rules}

module _ {P : Type 0} (rules : Rules P) (first : P) where
  -- of each of these begins, the innermost first and the first of them within so many calls, the player goes back to where the calls up to it lead
  abbrev pub Knows : List CallRecord → ℕ → P → List ℕ → Type 0
  Knows made most p [] = Unit {0}
  Knows made most p (k ∷ rest) = (k ≤ most) × (rules.at_block p (suc (suc (length rest))) ≡ player_then rules.answered first (take k made)) × Knows made k p rest

  -- these calls led the player to where it is, in its outermost block, with the inner blocks open that have these begins
  pub record IsAt (made : List CallRecord) (p : P) (begins : List ℕ) : Type 0 where
    pub player : p ≡ player_then rules.answered first made
    pub depth : rules.depth p ≡ suc (length begins)
    pub knows : Knows made (length made) p begins
