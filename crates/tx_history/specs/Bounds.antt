-- What a history's numbers fit: of what its text tells, the types of the machine; and of its sizes and counts, the limits of a run.
use Rattle.std.specs.Prelude.{◌≡◌, ◌⊎◌, ℕ, ◌+◌, ◌%◌, ◌^◌, ◌<◌, ◌≤◌, length, All}
use Rattle.hex.specs.Hex.{IsBytes}
use Rattle.itm_types.specs.declared.access.Width.{Width}
use Rattle.itm_types.specs.declared.access.Width.TheVariants.{U1, U2, U4, U8}
use Rattle.itm_types.specs.declared.call.Action.{Action}
use Rattle.itm_types.specs.declared.call.Copying.{Copying}
use Rattle.itm_types.specs.declared.call.Call.{Call}
use Rattle.itm_types.specs.declared.call.Call.TheVariants as calls
use Rattle.itm_types.specs.declared.call.Ran.{Ran}
use Rattle.itm_types.specs.declared.call.Reply.{Reply}
use Rattle.itm_types.specs.declared.call.Reply.TheVariants as replies
use Rattle.itm_types.specs.declared.datum.Datum.{Datum}
use Rattle.itm_types.specs.declared.limits.TheConstants.{MAX_ARENA, MAX_RETRIES}
use Rattle.tx_attempts.specs.declared.attempt.Again.{Again}
use Rattle.tx_attempts.specs.declared.attempt.Attempt.{Attempt}
use Rattle.tx_attempts.specs.declared.attempt.CallRecord.{CallRecord}
use Rattle.tx_history.specs.declared.history.History.{History}
use Rattle.tx_history.specs.declared.history.Version.{Version}
use Rattle.tx_history.specs.declared.pieces.Piece.{Piece}
use Rattle.tx_history.specs.declared.pieces.Piece.TheVariants.{Text, Number, Hex}
use Rattle.tx_history.specs.Versions.{MayTell, memory_limit, thread_limit}

-- ## Types

-- a number of 64 bits
abbrev pub IsWord : ℕ → Type 0
IsWord n = n < 2 ^ 64

-- a function, by a number of 32 bits, and its argument
abbrev pub IsAction : Action → Type 0
IsAction a = (a.fun ≤ 4294967295) × IsWord a.arg

abbrev pub IsCopying : Copying → Type 0
IsCopying c = IsWord c.to × IsWord c.from × IsWord c.size

-- a value whose bytes are bytes
abbrev pub IsDatum : Datum → Type 0
IsDatum d = IsBytes d.bytes.items

-- a piece of text
abbrev pub PieceFits : Piece → Type 0
PieceFits (Text t) = Unit {0}
PieceFits (Number n) = IsWord n
PieceFits (Hex bytes) = IsBytes bytes.now

-- what a text tells of a call
abbrev pub CallFits : Call → Type 0
CallFits (calls.Begin props room) = Unit {0}
CallFits calls.Commit = Unit {0}
CallFits (calls.Abort outer) = Unit {0}
CallFits (calls.Mode room) = Unit {0}
CallFits calls.InTransaction = Unit {0}
CallFits (calls.Read hint width at) = IsWord at
CallFits (calls.Write hint at value) = IsWord at × IsDatum value
CallFits (calls.Log width at) = IsWord at
CallFits (calls.LogBytes at size) = IsWord at × IsWord size
CallFits (calls.Copy c) = IsCopying c
CallFits (calls.Fill hint to byte size) = IsWord to × IsWord size
CallFits (calls.CommitAction action) = IsAction action
CallFits (calls.UndoAction action) = IsAction action
CallFits (calls.Load width at) = IsWord at
CallFits (calls.Save at value) = IsWord at × IsDatum value

-- and of a reply
abbrev pub ReplyFits : Reply → Type 0
ReplyFits replies.Done = Unit {0}
ReplyFits (replies.Bytes value) = IsBytes value.items
ReplyFits (replies.Code n) = n ≤ 4294967295
ReplyFits (replies.Refused refusal) = Unit {0}

abbrev pub EntryFits : CallRecord → Type 0
EntryFits e = CallFits e.call × ReplyFits e.reply

abbrev pub RanFits : Ran → Type 0
RanFits r = IsAction r.action

-- and of a block that ran again
pub record AgainFits (a : Again) : Type 0 where
  pub arena : IsBytes a.arena
  pub undone : All RanFits a.undone

-- what a text tells of an attempt: when its begin was called is not told
pub record AttemptFits (a : Attempt) : Type 0 where
  pub at : IsWord a.at
  pub arena : IsBytes a.arena
  pub calls : All EntryFits a.calls.list
  pub restarts : All AgainFits a.restarts
  pub ran : All RanFits a.ran

-- of a history that is written, each number and each byte that its text tells is one of its type
pub record HistoryFits (h : History) : Type 0 where
  pub memory : IsBytes h.memory
  pub attempts : All AttemptFits h.attempts
  pub clock : IsWord h.clock
  pub bytes : IsBytes h.bytes

-- ## Limits

-- the arena is accessed in 1, 2, 4 or 8 bytes
abbrev pub IsArenaWidth : Width → Type 0
IsArenaWidth w = (w ≡ U1) ⊎ ((w ≡ U2) ⊎ ((w ≡ U4) ⊎ (w ≡ U8)))

-- so is it where the call is an access of it
abbrev pub HasArenaWidth : Call → Type 0
HasArenaWidth (calls.Begin props room) = Unit {0}
HasArenaWidth calls.Commit = Unit {0}
HasArenaWidth (calls.Abort outer) = Unit {0}
HasArenaWidth (calls.Mode room) = Unit {0}
HasArenaWidth calls.InTransaction = Unit {0}
HasArenaWidth (calls.Read hint width at) = Unit {0}
HasArenaWidth (calls.Write hint at value) = Unit {0}
HasArenaWidth (calls.Log width at) = Unit {0}
HasArenaWidth (calls.LogBytes at size) = Unit {0}
HasArenaWidth (calls.Copy c) = Unit {0}
HasArenaWidth (calls.Fill hint to byte size) = Unit {0}
HasArenaWidth (calls.CommitAction action) = Unit {0}
HasArenaWidth (calls.UndoAction action) = Unit {0}
HasArenaWidth (calls.Load width at) = IsArenaWidth width
HasArenaWidth (calls.Save at value) = IsArenaWidth value.width

-- an attempt within the limits of a version
pub record IsLimited (version : Version) (a : Attempt) : Type 0 where
  pub thread : a.thread ≤ thread_limit version
  pub nth : (1 ≤ a.nth) × (a.nth ≤ MAX_RETRIES + 1)
  pub arena : length a.arena ≤ MAX_ARENA
  pub widths : All (λ (e : CallRecord). HasArenaWidth e.call) a.calls.list
  pub restarts : MayTell version a.restarts

-- a memory of words of 8 bytes: one at least, and as many as the version allows
abbrev pub IsMemorySize : Version → ℕ → Type 0
IsMemorySize version n = (8 ≤ n) × (n ≤ memory_limit version) × (n % 8 ≡ 0)

-- a history within those of its version
pub record AreLimited (h : History) : Type 0 where
  pub memory : IsMemorySize h.version (length h.memory)
  pub attempts : All (IsLimited h.version) h.attempts
