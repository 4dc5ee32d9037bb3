-- What is said where no text was read, or none was to be written.
use Rattle.std.proofs.Common.{ℕ, Bool, true, false, List, Option, None, Err}
use Rattle.itmsteps.proofs.Common.{AsmFault, Choice, Done, NoMemory, Reading, Says, failure_line}
use Rattle.text_commands.specs.Lines.{failure_status}

module _ (choice : Choice) (text : List ℕ) (status : ℕ) (old new : Option (List ℕ)) where
  -- memory was refused, for a history as for a script
  pub no_memory : (history : Bool) → Says (failure_line NoMemory) (failure_status {F = AsmFault} NoMemory) status old new → Done history choice text status None None old new
  no_memory true said = (Err NoMemory, tt, said)
  no_memory false said = (Err NoMemory, tt, said)

  -- no byte was read
  pub no_text : (history : Bool) → Says (failure_line Reading) (failure_status {F = AsmFault} Reading) status old new → Done history choice text status None None old new
  no_text true said = (Err Reading, tt, said)
  no_text false said = (Err Reading, tt, said)
