-- Texts of legal histories.
use Rattle.std.specs.Prelude.{◌≡◌, ℕ, List, Ok}
use Rattle.tx_history.specs.declared.history.History.{History}
use Rattle.tx_history.specs.Legal.{IsLegal}
use Rattle.history_reader.specs.Reading.{read_of}
use Rattle.history_reader.specs.Tellable.{IsHistory}

-- The text is read, and the history that it is read as is legal.
pub record IsLegalText (text : List ℕ) : Type 0 where
  pub history : History
  pub read : read_of text ≡ Ok history
  pub tellable : IsHistory history
  pub legal : IsLegal history
