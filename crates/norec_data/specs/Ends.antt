-- How a call ends, with what is kept beside the phase.
use Rattle.std.specs.Prelude.{◌/◌, ℕ, true, false, []}
use Rattle.std.specs.Int.{w64, to_le_bytes}
use Rattle.arrayvec.specs.ArrayVec.{ArrayVec}
use Rattle.itm_types.specs.declared.call.Reply.TheVariants as replies
use Rattle.norec_core.specs.declared.answer.Answer.{Answer}
use Rattle.norec_core.specs.declared.answer.Answer.TheVariants as answers
use Rattle.norec_data.specs.declared.data.Data.{Data}
use Rattle.norec_data.specs.declared.end.CallEnd.{CallEnd}
use Rattle.norec_data.specs.declared.end.CallEnd.TheVariants as ends

-- the answer that such an end comes to
abbrev pub answer_of : Data → CallEnd → Answer
answer_of d ends.Done = answers.Reply replies.Done
answer_of d ends.Gathered = answers.Reply (replies.Bytes d.gathered)
answer_of d (ends.Word word) = answers.Reply (replies.Bytes (record { items = to_le_bytes w64 word }))
answer_of d ends.Entered = answers.Reply (replies.Code 5)
answer_of d ends.EnteredAgain = answers.Reply (replies.Code 9)
answer_of d ends.Cancelled = answers.Reply (replies.Code 24)
answer_of d ends.NoTransaction = answers.Reply (replies.Code 0)
answer_of d ends.Retryable = answers.Reply (replies.Code 1)
answer_of d ends.Irrevocable = answers.Reply (replies.Code 2)
answer_of d ends.Refused = answers.Reply (replies.Refused d.why)
answer_of d ends.Committed = answers.Committed (d.snapshot / 2) true
answer_of d ends.ReadOnly = answers.Committed (d.snapshot / 2) false
answer_of d ends.Conflict = answers.Conflict d.clock d.changed
answer_of d (ends.Restarted word) = answers.Restarted d.clock word
answer_of d ends.Busy = answers.Busy d.clock
answer_of d ends.Full = answers.Full (d.snapshot / 2)

-- the bytes that are still kept once it is told
abbrev pub left_of : CallEnd → ArrayVec ℕ → ArrayVec ℕ
left_of ends.Gathered bytes = record { items = [] }
left_of _ bytes = bytes

abbrev pub told : CallEnd → Data → Data
told end d = record d { gathered = left_of end d.gathered }
