-- A text that was written and handed on.
use Rattle.std.proofs.Common.{ℕ, List, length, Option, Result, Ok, Err, arith}
use Rattle.std.{specs.Io.KnownBytes.Appends, specs.Io.KnownBytes.Keeps, proofs.KnownBytes.Appends-kept}
use Rattle.tx_history.specs.Spelling.{Writes}
use Rattle.text_commands.proofs.ReadTexts.{past}

-- it is the whole text, whether handing it on failed or not
pub flushed : {X E : Type 0} (a b c : Option (List ℕ)) (r : Result X E) (text : List ℕ) → Appends a b text → Keeps b c → Writes a c r text
flushed a b c (Ok x) text p k = Appends-kept a b c text p k
flushed a b c (Err e) text p k = (length text, rw (past (length text) text (omega arith)) (Appends-kept a b c text p k))
