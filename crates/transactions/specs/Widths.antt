-- What reads and writes of bytes are answered.
use Rattle.std.specs.Prelude.{◌≡◌, ℕ, List, [], ◌∷◌, length, Option, Some, Result, Ok, Err, refl}
use Rattle.std.specs.Int.{w16, w32, to_le_bytes}
use Rattle.itm_types.specs.declared.access.Width.{Width}
use Rattle.itm_types.specs.declared.access.Width.TheVariants.{U1, U2, U4}
use Rattle.itm_types.specs.declared.datum.Datum.{Datum}
use Rattle.itm_types.specs.declared.call.Reply.TheVariants.{Bytes}
use Rattle.itm_types.specs.Access.{size_of}
use Rattle.itm_model.specs.Machine.{bytes_reply}
use Rattle.norec_core.specs.declared.answer.Answer.{Answer}
use Rattle.norec_core.specs.declared.answer.Answer.TheVariants.{Reply}
use Rattle.itm_runtime.specs.Stops.{answer_of}
use Rattle.itm_runtime.specs.declared.stop.Stop.{Stop}

-- the answer has the bytes of a value of this width
abbrev pub HasValue : Width → Answer → Type 0
HasValue width (Reply (Bytes value)) = length value.items ≡ size_of width
HasValue width a = ⊥

-- the answer to a read that gave something with these bytes, or did not
abbrev pub answer_as : {T : Type 0} → (T → List ℕ) → Result T Stop → Option Answer
answer_as bytes (Ok x) = Some (Reply (bytes_reply (bytes x)))
answer_as bytes (Err stop) = answer_of stop

-- numbers as what is written, the low byte first
abbrev pub number_8 : ℕ → Datum
number_8 n = record { width = U1; bytes = record { items = n ∷ [] }; sized = refl }

abbrev pub number_16 : ℕ → Datum
number_16 n = record { width = U2; bytes = record { items = to_le_bytes w16 n }; sized = refl }

abbrev pub number_32 : ℕ → Datum
number_32 n = record { width = U4; bytes = record { items = to_le_bytes w32 n }; sized = refl }
