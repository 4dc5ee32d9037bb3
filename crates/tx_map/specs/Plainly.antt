-- What a part of a transaction does to the plain machine's bytes.
use Rattle.std.specs.Prelude.{◌≡◌, ◌||◌, ℕ, Bool, false, List}
use Rattle.itm_model.specs.Runs.{replies, state_after}
use Rattle.itm_model.specs.State.{State}
use Rattle.shared_words.specs.InGlobal.{Words}
use Rattle.call_rules.specs.Standing.{Standing}
use Rattle.transactions.specs.Plain.{Deed, Makes, calls_of, replies_of}

-- the bytes go so from the one state to the other: on the way something is written, or nothing is and they stay
pub record Goes (writes : Bool) (So : List ℕ → List ℕ → Type 0) (old new : State) : Type 0 where
  pub so : So old.memory new.memory
  pub wrote : new.wrote ≡ (writes || old.wrote)
  pub still : writes ≡ false → new.memory ≡ old.memory

-- such deeds led the thread from the one standing to the other, and wherever the plain machine gives their replies its bytes go so
pub record Does (words : Words) (old new : Standing) (writes : Bool) (So : List ℕ → List ℕ → Type 0) : Type 0 where
  pub made : List Deed
  pub makes : Makes words old made new
  pub plainly : (d : ℕ) (s : State) → replies_of made ≡ replies d s (calls_of made) → Goes writes So s (state_after d s (calls_of made))
