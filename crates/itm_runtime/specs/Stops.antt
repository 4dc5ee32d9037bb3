-- What a call is answered where a typed result tells of it.
use Rattle.std.specs.Prelude.{◌≡◌, ℕ, Bool, true, false, List, length, Option, Result, None, Some, Ok, Err, refl}
use Rattle.std.specs.Int.{w64, to_le_bytes}
use Rattle.itm_types.specs.declared.access.Width.TheVariants.{U8}
use Rattle.itm_types.specs.declared.datum.Datum.{Datum}
use Rattle.itm_types.specs.declared.call.Reply.TheVariants.{Done, Bytes, Refused as RefusedReply}
use Rattle.itm_model.specs.Machine.{bytes_reply}
use Rattle.norec_core.specs.declared.answer.Answer.{Answer}
use Rattle.norec_core.specs.declared.answer.Answer.TheVariants.{Reply, Conflict as ConflictAnswer, Restarted as RestartedAnswer, Busy as BusyAnswer, Full as FullAnswer}
use Rattle.itm_runtime.specs.declared.stop.Stop.{Stop}
use Rattle.itm_runtime.specs.declared.stop.Stop.TheVariants.{Refused, Conflict, Restarted, Busy, Full, Memory}

-- the answer that a stop tells of; where memory was refused there is none
abbrev pub answer_of : Stop → Option Answer
answer_of (Refused refusal) = Some (Reply (RefusedReply refusal))
answer_of (Conflict clock word) = Some (ConflictAnswer clock word)
answer_of (Restarted clock word) = Some (RestartedAnswer clock word)
answer_of (Busy clock) = Some (BusyAnswer clock)
answer_of (Full at) = Some (FullAnswer at)
answer_of Memory = None

-- no stop tells of the answer
abbrev pub GoesOn : Answer → Type 0
GoesOn a = (stop : Stop) → answer_of stop ≡ Some a → ⊥

-- the answer has the bytes of a number
abbrev pub HasNumber : Answer → Type 0
HasNumber (Reply (Bytes value)) = length value.items ≡ 8
HasNumber a = ⊥

-- the eight bytes of a number, the low one first
abbrev pub bytes_of_number : ℕ → List ℕ
bytes_of_number n = to_le_bytes w64 n

-- a number as what is written
abbrev pub number : ℕ → Datum
number n = record { width = U8; bytes = record { items = bytes_of_number n }; sized = refl }

-- what a write came to that tells whether it is done, else what stops the transaction beside it
abbrev pub done_or : Bool → Stop → Result (Unit {0}) Stop
done_or true stop = Ok tt
done_or false stop = Err stop

-- the answer to a read that gave a number, or did not
abbrev pub answer_to_read : Result ℕ Stop → Option Answer
answer_to_read (Ok n) = Some (Reply (bytes_reply (bytes_of_number n)))
answer_to_read (Err stop) = answer_of stop

-- the answer to a write
abbrev pub answer_to_write : Result (Unit {0}) Stop → Option Answer
answer_to_write (Ok done) = Some (Reply Done)
answer_to_write (Err stop) = answer_of stop

-- the same where a write that is done tells its number
abbrev pub answer_to_put : Result ℕ Stop → Option Answer
answer_to_put (Ok n) = Some (Reply Done)
answer_to_put (Err stop) = answer_of stop
