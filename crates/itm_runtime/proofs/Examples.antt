-- Worked cases of the definitions in `Stops.antt`.
use Rattle.std.proofs.Common.{◌≡◌, [], ◌∷◌, None, Some, Ok, Err, refl}
use Rattle.itm_runtime.proofs.Common.{Bytes, Conflict, Done, OutOfRange, Refused, Reply, answer_to_read, answer_to_write, number}
use Rattle.itm_runtime.specs.declared.stop.Stop.TheVariants as stops

-- the low byte comes first
reads_number : answer_to_read (Ok 258) ≡ Some (Reply (Bytes (record { items = 2 ∷ 1 ∷ 0 ∷ 0 ∷ 0 ∷ 0 ∷ 0 ∷ 0 ∷ [] })))
reads_number = refl

writes_number : (number 72057594037927937).bytes.items ≡ 1 ∷ 0 ∷ 0 ∷ 0 ∷ 0 ∷ 0 ∷ 0 ∷ 1 ∷ []
writes_number = refl

-- nothing of a conflict is lost
conflict_of_read : answer_to_read (Err (stops.Conflict 4 (Some 3))) ≡ Some (Conflict 4 (Some 3))
conflict_of_read = refl

refusal_of_write : answer_to_write (Err (stops.Refused OutOfRange)) ≡ Some (Reply (Refused OutOfRange))
refusal_of_write = refl

write_is_done : answer_to_write (Ok tt) ≡ Some (Reply Done)
write_is_done = refl

-- where memory was refused there is no answer
no_answer : answer_to_read (Err stops.Memory) ≡ None
no_answer = refl
