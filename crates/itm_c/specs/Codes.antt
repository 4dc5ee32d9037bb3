-- What a number tells of an answer.
use Rattle.std.specs.Prelude.{ℕ, ◌+◌, Bool, true, false, List, Option, None, Some, Result, Ok, Err, take, replicate, ◌++◌}
use Rattle.std.specs.Int.{w64, from_le_bytes}
use Rattle.itm_types.specs.Refusals.{number_of}
use Rattle.itm_types.specs.declared.call.Reply.{Reply}
use Rattle.itm_types.specs.declared.call.Reply.TheVariants.{Done, Bytes, Code, Refused}
use Rattle.norec_core.specs.declared.answer.Answer.{Answer}
use Rattle.norec_core.specs.declared.answer.Answer.TheVariants as answers

-- the numbers of the header
abbrev pub is_done : ℕ
is_done = 0

abbrev pub is_read_only : ℕ
is_read_only = 32

abbrev pub is_committed : ℕ
is_committed = 33

abbrev pub is_conflict : ℕ
is_conflict = 64

abbrev pub is_restarted : ℕ
is_restarted = 65

abbrev pub is_busy : ℕ
is_busy = 66

abbrev pub is_full : ℕ
is_full = 67

abbrev pub no_memory : ℕ
no_memory = 68

abbrev pub no_seat : ℕ
no_seat = 69

abbrev pub is_held : ℕ
is_held = 70

abbrev pub still_entered : ℕ
still_entered = 71

abbrev pub is_refused : ℕ
is_refused = 80

abbrev pub is_out_of_range : ℕ
is_out_of_range = 82

abbrev pub code_of_reply : Reply → ℕ
code_of_reply Done = is_done
code_of_reply (Bytes value) = is_done
code_of_reply (Code code) = code
code_of_reply (Refused why) = is_refused + number_of why

abbrev pub code_of_commit : Bool → ℕ
code_of_commit false = is_read_only
code_of_commit true = is_committed

abbrev pub code_of_answer : Answer → ℕ
code_of_answer (answers.Reply r) = code_of_reply r
code_of_answer (answers.Committed at wrote) = code_of_commit wrote
code_of_answer (answers.Conflict clock word) = is_conflict
code_of_answer (answers.Restarted clock word) = is_restarted
code_of_answer (answers.Busy clock) = is_busy
code_of_answer (answers.Full at) = is_full

-- there is no answer where memory was refused
abbrev pub code_of : Option Answer → ℕ
code_of None = no_memory
code_of (Some a) = code_of_answer a

abbrev pub answer_of_result : {E : Type 0} → Result Answer E → Option Answer
answer_of_result (Ok a) = Some a
answer_of_result (Err e) = None

-- the number of bytes, the low one first, of which the first 8 count
abbrev pub number_of_bytes : List ℕ → ℕ
number_of_bytes bytes = from_le_bytes w64 (take 8 (bytes ++ replicate 8 0))

abbrev pub value_in_reply : Reply → ℕ
value_in_reply Done = 0
value_in_reply (Bytes value) = number_of_bytes value.items
value_in_reply (Code code) = 0
value_in_reply (Refused why) = 0

-- the number of which an answer has the bytes, else 0
abbrev pub value_in_answer : Answer → ℕ
value_in_answer (answers.Reply r) = value_in_reply r
value_in_answer (answers.Committed at wrote) = 0
value_in_answer (answers.Conflict clock word) = 0
value_in_answer (answers.Restarted clock word) = 0
value_in_answer (answers.Busy clock) = 0
value_in_answer (answers.Full at) = 0

abbrev pub value_in : Option Answer → ℕ
value_in None = 0
value_in (Some a) = value_in_answer a
