-- The text of a history.
use Rattle.std.specs.Prelude.{ℕ, ◌-◌, List, [], ◌∷◌, ◌++◌, length, take, drop, flat_map, decimal, codes, if◌then◌else◌, ◌==◌, ◌%◌}
use Rattle.hex.specs.Hex.{encode_lower}
use Rattle.itm_types.specs.Access.{size_of}
use Rattle.itm_entries.specs.Names.{name_of}
use Rattle.itm_types.specs.Refusals.{number_of}
use Rattle.itm_types.specs.declared.access.WriteHint.{WriteHint}
use Rattle.itm_types.specs.declared.call.Action.{Action}
use Rattle.itm_types.specs.declared.call.ActionKind.{ActionKind}
use Rattle.itm_types.specs.declared.call.ActionKind.TheVariants as kinds
use Rattle.itm_types.specs.declared.call.Copying.{Copying}
use Rattle.itm_types.specs.declared.call.Props.{Props}
use Rattle.script_fields.specs.Properties.{props_text}
use Rattle.script_fields.specs.Spelling.{scope_text}
use Rattle.itm_types.specs.declared.call.Call.{Call}
use Rattle.itm_types.specs.declared.call.Call.TheVariants as calls
use Rattle.itm_types.specs.declared.call.Ran.{Ran}
use Rattle.itm_types.specs.declared.call.Reply.{Reply}
use Rattle.itm_types.specs.declared.call.Reply.TheVariants as replies
use Rattle.itm_entries.specs.declared.entry.Entry.TheVariants as entry
use Rattle.tx_attempts.specs.declared.attempt.Outcome.{Outcome}
use Rattle.tx_attempts.specs.declared.attempt.Outcome.TheVariants as outcomes
use Rattle.tx_attempts.specs.declared.attempt.CallRecord.{CallRecord}
use Rattle.tx_attempts.specs.declared.attempt.Again.{Again}
use Rattle.tx_attempts.specs.declared.attempt.Attempt.{Attempt}
use Rattle.tx_history.specs.declared.history.History.{History}
use Rattle.tx_history.specs.declared.history.Version.{Version}
use Rattle.tx_history.specs.declared.history.Version.TheVariants.{One, Two, Three}

abbrev pub outcome_name : Outcome → List ℕ
outcome_name outcomes.Committed = codes "committed"
outcome_name outcomes.ReadOnly = codes "readonly"
outcome_name outcomes.Cancelled = codes "cancelled"
outcome_name outcomes.Conflict = codes "conflict"
outcome_name outcomes.Full = codes "full"
outcome_name outcomes.NoMemory = codes "nomemory"
outcome_name outcomes.Unfinished = codes "unfinished"

-- who tried, the try, the position, and how it ended
unfoldable pub try_text : Attempt → List ℕ
try_text a = codes "attempt " ++ decimal a.thread ++ codes " " ++ decimal a.nth ++ codes " " ++ decimal a.at ++ codes " " ++ outcome_name a.outcome

-- the properties of its block, at the end of the line
unfoldable pub props_end : Props → List ℕ
props_end props = codes " " ++ props_text props ++ codes "\n"

unfoldable pub head_line : Attempt → List ℕ
head_line a = try_text a ++ props_end a.props

unfoldable pub arena_line : List ℕ → List ℕ
arena_line bytes = if length bytes == 0 then codes "arena -\n" else codes "arena " ++ encode_lower bytes ++ codes "\n"

-- the entry point, and the first byte that is written, the first one that is read, and how many they are
unfoldable pub copy_text : Copying → List ℕ
copy_text c = name_of (entry.Copy c.moves c.pair) ++ codes " " ++ decimal c.to ++ codes " " ++ decimal c.from ++ codes " " ++ decimal c.size

-- the entry point, the first byte that is written, what each byte is then, and how many they are
unfoldable pub fill_text : WriteHint → ℕ → ℕ → ℕ → List ℕ
fill_text hint to byte size = name_of (entry.Fill hint) ++ codes " " ++ decimal to ++ codes " " ++ decimal (byte % 256) ++ codes " " ++ decimal size

-- what is registered: the function, of which transaction, and the argument
unfoldable pub commit_action_text : Action → List ℕ
commit_action_text a = codes "_ITM_addUserCommitAction " ++ decimal a.fun ++ codes " _ITM_noTransactionId " ++ decimal a.arg

-- the function and the argument
unfoldable pub undo_action_text : Action → List ℕ
undo_action_text a = codes "_ITM_addUserUndoAction " ++ decimal a.fun ++ codes " " ++ decimal a.arg

unfoldable pub body_text : Call → List ℕ
body_text (calls.Begin props room) = codes "_ITM_beginTransaction " ++ props_text props
body_text calls.Commit = codes "_ITM_commitTransaction"
body_text (calls.Abort outer) = codes "_ITM_abortTransaction " ++ scope_text outer
body_text (calls.Mode room) = codes "_ITM_changeTransactionMode modeSerialIrrevocable"
body_text calls.InTransaction = codes "_ITM_inTransaction"
body_text (calls.Read hint width at) = name_of (entry.Read hint width) ++ codes " " ++ decimal at
body_text (calls.Write hint at value) = name_of (entry.Write hint value.width) ++ codes " " ++ decimal at ++ codes " " ++ encode_lower value.bytes.items
body_text (calls.Log width at) = name_of (entry.Log width) ++ codes " " ++ decimal at
body_text (calls.LogBytes at size) = name_of entry.LogBytes ++ codes " " ++ decimal at ++ codes " " ++ decimal size
body_text (calls.Copy c) = copy_text c
body_text (calls.Fill hint to byte size) = fill_text hint to byte size
body_text (calls.CommitAction action) = commit_action_text action
body_text (calls.UndoAction action) = undo_action_text action
body_text (calls.Load width at) = codes "ld" ++ decimal (size_of width) ++ codes " " ++ decimal at
body_text (calls.Save at value) = codes "st" ++ decimal (size_of value.width) ++ codes " " ++ decimal at ++ codes " " ++ encode_lower value.bytes.items

unfoldable pub reply_text : Reply → List ℕ
reply_text replies.Done = codes "ok"
reply_text (replies.Bytes value) = encode_lower value.items
reply_text (replies.Code n) = codes "code " ++ decimal n
reply_text (replies.Refused refusal) = codes "refused " ++ decimal (number_of refusal)

unfoldable pub call_line : CallRecord → List ℕ
call_line e = codes "call " ++ body_text e.call ++ codes " = " ++ reply_text e.reply ++ codes "\n"

-- the arena from which a block ran again
unfoldable pub restart_line : List ℕ → List ℕ
restart_line bytes = if length bytes == 0 then codes "restart -\n" else codes "restart " ++ encode_lower bytes ++ codes "\n"

-- an action that had run in it before: its function and its argument
unfoldable pub undone_line : Ran → List ℕ
undone_line r = codes "undone " ++ decimal r.action.fun ++ codes " " ++ decimal r.action.arg ++ codes "\n"

-- that a block ran again: the lines behind that of its begin
unfoldable pub again_lines : Again → List ℕ
again_lines a = restart_line a.arena ++ flat_map undone_line a.undone

-- the calls that stand behind so many others, and within them the blocks that ran again, each behind the calls up to its begin
abbrev pub call_lines : ℕ → List CallRecord → List Again → List ℕ
call_lines n calls [] = flat_map call_line calls
call_lines n calls (a ∷ rest) = flat_map call_line (take (a.kept - n) calls) ++ again_lines a ++ call_lines a.kept (drop (a.kept - n) calls) rest

abbrev pub kind_text : ActionKind → List ℕ
kind_text kinds.Commit = codes "commit"
kind_text kinds.Undo = codes "undo"

-- an action that has run: its kind, its function and its argument
unfoldable pub ran_line : Ran → List ℕ
ran_line r = codes "ran " ++ kind_text r.kind ++ codes " " ++ decimal r.action.fun ++ codes " " ++ decimal r.action.arg ++ codes "\n"

unfoldable pub attempt_lines : Attempt → List ℕ
attempt_lines a = head_line a ++ arena_line a.arena ++ call_lines 0 a.calls.list a.restarts ++ flat_map ran_line a.ran ++ codes "end\n"

-- the name of the format, and what a version says of its histories
abbrev pub version_lines : Version → List ℕ
version_lines One = codes "itm-history 1\n"
version_lines Two = codes "itm-history 2\n"
version_lines (Three depth) = codes "itm-history 3\ndepth " ++ decimal depth.blocks ++ codes "\n"

-- the lines before the first attempt
unfoldable pub first_lines : Version → List ℕ → List ℕ
first_lines version memory = version_lines version ++ codes "memory " ++ encode_lower memory ++ codes "\n"

unfoldable pub last_line : ℕ → List ℕ → List ℕ
last_line clock bytes = codes "final " ++ decimal clock ++ codes " " ++ encode_lower bytes ++ codes "\n"

-- the one spelling of a history
unfoldable pub history_text : History → List ℕ
history_text h = first_lines h.version h.memory ++ flat_map attempt_lines h.attempts ++ last_line h.clock h.bytes
