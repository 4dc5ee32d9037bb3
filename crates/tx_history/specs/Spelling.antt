-- The one spelling of a history.
use Rattle.std.specs.Prelude.{ℕ, ◌<◌, List, length, take, Option, Result, Ok, Err, decimal}
use Rattle.std.specs.Io.KnownBytes.{Appends}
use Rattle.hex.specs.Hex.{encode_lower}
use Rattle.tx_history.specs.declared.pieces.Piece.{Piece}
use Rattle.tx_history.specs.declared.pieces.Piece.TheVariants.{Text, Number, Hex}

-- a beginning of the text is written, and not all of it
abbrev pub IsCut : Option (List ℕ) → Option (List ℕ) → List ℕ → Type 0
IsCut old new text = (n : ℕ) × (n < length text) × Appends old new (take n text)

-- the text is written, or the call failed before all of it was
abbrev pub Puts : {A E : Type 0} → Option (List ℕ) → Option (List ℕ) → Result A E → List ℕ → Type 0
Puts old new (Ok x) text = Appends old new text
Puts old new (Err e) text = IsCut old new text

-- the text is written, or the call failed and a beginning of it is
abbrev pub Writes : {A E : Type 0} → Option (List ℕ) → Option (List ℕ) → Result A E → List ℕ → Type 0
Writes old new (Ok x) text = Appends old new text
Writes old new (Err e) text = (n : ℕ) × Appends old new (take n text)

abbrev pub spelled : Piece → List ℕ
spelled (Text t) = t.now
spelled (Number n) = decimal n
spelled (Hex bytes) = encode_lower bytes.now
