-- The lines of a history as fields.
use Rattle.std.specs.Prelude.{ℕ, ◌==◌, ◌%◌, List, [], ◌∷◌, ◌++◌, length, decimal, codes, if◌then◌else◌}
use Rattle.hex.specs.Hex.{encode_lower}
use Rattle.itm_types.specs.Access.{size_of}
use Rattle.itm_entries.specs.Names.{name_of}
use Rattle.itm_types.specs.Refusals.{number_of}
use Rattle.itm_types.specs.declared.call.Call.{Call}
use Rattle.itm_types.specs.declared.call.Call.TheVariants as calls
use Rattle.itm_types.specs.declared.call.Ran.{Ran}
use Rattle.itm_types.specs.declared.call.Reply.{Reply}
use Rattle.itm_types.specs.declared.call.Reply.TheVariants as replies
use Rattle.itm_entries.specs.declared.entry.Control.TheVariants as controls
use Rattle.itm_entries.specs.declared.entry.Entry.TheVariants as points
use Rattle.script_fields.specs.Properties.{props_text}
use Rattle.script_fields.specs.Spelling.{scope_text, mode_text, no_transaction_text}
use Rattle.tx_attempts.specs.declared.attempt.Attempt.{Attempt}
use Rattle.tx_attempts.specs.declared.attempt.CallRecord.{CallRecord}
use Rattle.tx_history.specs.Histories.{kind_text, outcome_name}
use Rattle.history_reader.specs.declared.verb.Verb.{Verb}
use Rattle.history_reader.specs.declared.verb.Verb.TheVariants as verbs

abbrev pub arena_text : List ℕ → List ℕ
arena_text bytes = if length bytes == 0 then codes "-" else encode_lower bytes

abbrev pub verb_text : Verb → List ℕ
verb_text (verbs.Point point) = name_of point
verb_text (verbs.Load width) = codes "ld" ++ decimal (size_of width)
verb_text (verbs.Save width) = codes "st" ++ decimal (size_of width)

-- what is called
abbrev pub verb_in : Call → Verb
verb_in (calls.Begin props room) = verbs.Point (points.Control controls.BeginTransaction)
verb_in calls.Commit = verbs.Point (points.Control controls.CommitTransaction)
verb_in (calls.Abort outer) = verbs.Point (points.Control controls.AbortTransaction)
verb_in (calls.Mode room) = verbs.Point (points.Control controls.ChangeTransactionMode)
verb_in calls.InTransaction = verbs.Point (points.Control controls.InTransaction)
verb_in (calls.Read hint width at) = verbs.Point (points.Read hint width)
verb_in (calls.Write hint at value) = verbs.Point (points.Write hint value.width)
verb_in (calls.Log width at) = verbs.Point (points.Log width)
verb_in (calls.LogBytes at size) = verbs.Point points.LogBytes
verb_in (calls.Copy c) = verbs.Point (points.Copy c.moves c.pair)
verb_in (calls.Fill hint to byte size) = verbs.Point (points.Fill hint)
verb_in (calls.CommitAction action) = verbs.Point (points.Control controls.AddUserCommitAction)
verb_in (calls.UndoAction action) = verbs.Point (points.Control controls.AddUserUndoAction)
verb_in (calls.Load width at) = verbs.Load width
verb_in (calls.Save at value) = verbs.Save value.width

-- the operands of a call
abbrev pub operands_of : Call → List (List ℕ)
operands_of (calls.Begin props room) = props_text props ∷ []
operands_of calls.Commit = []
operands_of (calls.Abort outer) = scope_text outer ∷ []
operands_of (calls.Mode room) = mode_text ∷ []
operands_of calls.InTransaction = []
operands_of (calls.Read hint width at) = decimal at ∷ []
operands_of (calls.Write hint at value) = decimal at ∷ encode_lower value.bytes.items ∷ []
operands_of (calls.Log width at) = decimal at ∷ []
operands_of (calls.LogBytes at size) = decimal at ∷ decimal size ∷ []
operands_of (calls.Copy c) = decimal c.to ∷ decimal c.from ∷ decimal c.size ∷ []
operands_of (calls.Fill hint to byte size) = decimal to ∷ decimal (byte % 256) ∷ decimal size ∷ []
operands_of (calls.CommitAction action) = decimal action.fun ∷ no_transaction_text ∷ decimal action.arg ∷ []
operands_of (calls.UndoAction action) = decimal action.fun ∷ decimal action.arg ∷ []
operands_of (calls.Load width at) = decimal at ∷ []
operands_of (calls.Save at value) = decimal at ∷ encode_lower value.bytes.items ∷ []

abbrev pub reply_fields : Reply → List (List ℕ)
reply_fields replies.Done = codes "ok" ∷ []
reply_fields (replies.Bytes value) = encode_lower value.items ∷ []
reply_fields (replies.Code n) = codes "code" ∷ decimal n ∷ []
reply_fields (replies.Refused refusal) = codes "refused" ∷ decimal (number_of refusal) ∷ []

-- what stands behind the name
abbrev pub rest_of : CallRecord → List (List ℕ)
rest_of e = operands_of e.call ++ codes "=" ∷ reply_fields e.reply

abbrev pub call_fields : CallRecord → List (List ℕ)
call_fields e = codes "call" ∷ verb_text (verb_in e.call) ∷ rest_of e

abbrev pub ran_fields : Ran → List (List ℕ)
ran_fields r = codes "ran" ∷ kind_text r.kind ∷ decimal r.action.fun ∷ decimal r.action.arg ∷ []

abbrev pub head_fields : Attempt → List (List ℕ)
head_fields a = codes "attempt" ∷ decimal a.thread ∷ decimal a.nth ∷ decimal a.at ∷ outcome_name a.outcome ∷ props_text a.props ∷ []

abbrev pub arena_fields : List ℕ → List (List ℕ)
arena_fields bytes = codes "arena" ∷ arena_text bytes ∷ []

-- that a block ran again, from this arena
abbrev pub restart_fields : List ℕ → List (List ℕ)
restart_fields bytes = codes "restart" ∷ arena_text bytes ∷ []

abbrev pub undone_fields : Ran → List (List ℕ)
undone_fields r = codes "undone" ∷ decimal r.action.fun ∷ decimal r.action.arg ∷ []

abbrev pub depth_fields : ℕ → List (List ℕ)
depth_fields blocks = codes "depth" ∷ decimal blocks ∷ []

abbrev pub memory_fields : List ℕ → List (List ℕ)
memory_fields bytes = codes "memory" ∷ encode_lower bytes ∷ []

abbrev pub final_fields : ℕ → List ℕ → List (List ℕ)
final_fields clock bytes = codes "final" ∷ decimal clock ∷ encode_lower bytes ∷ []
