-- The histories that a text can tell.
use Rattle.std.specs.Prelude.{◌≡◌, ℕ, ◌+◌, ◌%◌, ◌≤◌, List, length, All}
use Rattle.hex.specs.Hex.{IsBytes}
use Rattle.itm_types.specs.Access.{size_of}
use Rattle.itm_types.specs.declared.call.ActionKind.TheVariants.{Undo}
use Rattle.itm_types.specs.declared.call.Call.{Call}
use Rattle.itm_types.specs.declared.call.Call.TheVariants as calls
use Rattle.itm_types.specs.declared.call.Ran.{Ran}
use Rattle.itm_types.specs.declared.call.Reply.{Reply}
use Rattle.itm_types.specs.declared.call.Reply.TheVariants as replies
use Rattle.itm_types.specs.declared.limits.TheConstants.{MAX_ARENA, MAX_RETRIES}
use Rattle.tx_attempts.specs.Restarts.{AreAgain}
use Rattle.tx_attempts.specs.declared.attempt.Again.{Again}
use Rattle.tx_attempts.specs.declared.attempt.Attempt.{Attempt}
use Rattle.tx_attempts.specs.declared.attempt.CallRecord.{CallRecord}
use Rattle.tx_history.specs.declared.history.History.{History}
use Rattle.tx_history.specs.declared.history.Version.{Version}
use Rattle.tx_history.specs.Versions.{MayTell, memory_limit, thread_limit}
use Rattle.tx_history.specs.Bounds.{IsWord, IsAction, IsCopying, IsDatum, IsArenaWidth}
use Rattle.history_reader.specs.declared.reply.ReplyKind.{ReplyKind}
use Rattle.history_reader.specs.declared.reply.ReplyKind.TheVariants as answers

-- A call that a text can tell. How many more calls a block may make is not told.
abbrev pub IsCall : Call → Type 0
IsCall (calls.Begin props room) = room ≡ 0
IsCall calls.Commit = Unit {0}
IsCall (calls.Abort outer) = Unit {0}
IsCall (calls.Mode room) = room ≡ 0
IsCall calls.InTransaction = Unit {0}
IsCall (calls.Read hint width at) = IsWord at
IsCall (calls.Write hint at value) = IsWord at × IsDatum value
IsCall (calls.Log width at) = IsWord at
IsCall (calls.LogBytes at size) = IsWord at × IsWord size
IsCall (calls.Copy c) = IsCopying c
IsCall (calls.Fill hint to byte size) = IsWord to × (byte ≤ 255) × IsWord size
IsCall (calls.CommitAction action) = IsAction action
IsCall (calls.UndoAction action) = IsAction action
IsCall (calls.Load width at) = IsArenaWidth width × IsWord at
IsCall (calls.Save at value) = IsArenaWidth value.width × IsWord at × IsDatum value

-- of which kind a call's reply is, where it is not refused
abbrev pub answer_to : Call → ReplyKind
answer_to (calls.Begin props room) = answers.Code
answer_to calls.Commit = answers.Done
answer_to (calls.Abort outer) = answers.Code
answer_to (calls.Mode room) = answers.Done
answer_to calls.InTransaction = answers.Code
answer_to (calls.Read hint width at) = answers.Bytes width
answer_to (calls.Write hint at value) = answers.Done
answer_to (calls.Log width at) = answers.Done
answer_to (calls.LogBytes at size) = answers.Done
answer_to (calls.Copy c) = answers.Done
answer_to (calls.Fill hint to byte size) = answers.Done
answer_to (calls.CommitAction action) = answers.Done
answer_to (calls.UndoAction action) = answers.Done
answer_to (calls.Load width at) = answers.Bytes width
answer_to (calls.Save at value) = answers.Done

-- a reply of that kind, or a refusal
abbrev pub IsReply : ReplyKind → Reply → Type 0
IsReply answer (replies.Refused refusal) = Unit {0}
IsReply answers.Done replies.Done = Unit {0}
IsReply answers.Done (replies.Bytes value) = ⊥
IsReply answers.Done (replies.Code n) = ⊥
IsReply answers.Code replies.Done = ⊥
IsReply answers.Code (replies.Bytes value) = ⊥
IsReply answers.Code (replies.Code n) = n ≤ 255
IsReply (answers.Bytes width) replies.Done = ⊥
IsReply (answers.Bytes width) (replies.Bytes value) = (length value.items ≡ size_of width) × IsBytes value.items
IsReply (answers.Bytes width) (replies.Code n) = ⊥

-- a call and a reply that fits it
abbrev pub IsEntry : CallRecord → Type 0
IsEntry e = IsCall e.call × IsReply (answer_to e.call) e.reply

abbrev pub IsRan : Ran → Type 0
IsRan r = IsAction r.action

-- an action that had run in a block before it ran again: no text tells its kind
abbrev pub IsUndone : Ran → Type 0
IsUndone r = (r.kind ≡ Undo) × IsAction r.action

abbrev pub IsTold : Again → Type 0
IsTold a = IsBytes a.arena × All IsUndone a.undone

-- an attempt that a text of this version can tell: when its begin was called is not told, nor for how many more calls it has room
pub record IsAttempt (version : Version) (a : Attempt) : Type 0 where
  pub thread : a.thread ≤ thread_limit version
  pub nth : (1 ≤ a.nth) × (a.nth ≤ MAX_RETRIES + 1)
  pub began : a.began ≡ 0
  pub at : IsWord a.at
  pub arena : IsBytes a.arena × (length a.arena ≤ MAX_ARENA)
  pub calls : All IsEntry a.calls.list
  pub room : a.calls.room ≡ 0
  pub again : AreAgain (length a.arena) 0 a.calls.list a.restarts  -- each block that ran again is one within the outermost, with a whole arena
  pub restarts : All IsTold a.restarts
  pub may : MayTell version a.restarts
  pub ran : All IsRan a.ran

-- a memory of words of 8 bytes: one at least, and so many bytes at most
abbrev pub IsMemory : ℕ → List ℕ → Type 0
IsMemory limit bytes = IsBytes bytes × (8 ≤ length bytes) × (length bytes ≤ limit) × (length bytes % 8 ≡ 0)

-- a history that a text can tell
pub record IsHistory (h : History) : Type 0 where
  pub memory : IsMemory (memory_limit h.version) h.memory
  pub attempts : All (IsAttempt h.version) h.attempts
  pub clock : IsWord h.clock
  pub bytes : IsBytes h.bytes × (length h.bytes ≡ length h.memory)
