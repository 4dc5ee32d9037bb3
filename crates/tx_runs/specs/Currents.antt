-- Where a player's try stands.
use Rattle.std.specs.Prelude.{◌≡◌, ℕ, ◌≤◌, Bool, true, false}
use Rattle.tx_attempts.specs.declared.attempt.Attempt.{Attempt}
use Rattle.tx_runs.specs.OpenAttempts.{Open}
use Rattle.tx_runs.specs.declared.current.BlockState.{BlockState}
use Rattle.tx_runs.specs.declared.current.BlockState.TheVariants as states

-- no block is open; or the begin that is in progress is to open this attempt; or it is open
pub data Current : Type 0 where
  Outside : Current
  Begins : Open → Current
  Within : Open → Current

abbrev pub current_of : BlockState → Open → Current
current_of states.Outside o = Outside
current_of states.Begins o = Begins o
current_of states.Within o = Within o

-- no attempt is open
abbrev pub IsNotWithin : Current → Type 0
IsNotWithin c = (o : Open) → c ≡ Within o → ⊥

-- a begin is in progress that is to open one
abbrev pub is_begun : Current → Bool
is_begun (Begins o) = true
is_begun c = false

-- it is to open this attempt, with room for so many calls, as many blocks and as many actions
pub record BeginsAttempt (row : Attempt) (ahead : ℕ) (c : Current) : Type 0 where
  pub o : Open
  pub begins : c ≡ Begins o
  pub is : o.row ≡ row
  pub ends : ahead ≤ o.ends
  pub cancels : ahead ≤ o.cancels
  pub deep : ahead ≤ o.deep
