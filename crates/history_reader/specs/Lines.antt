-- What a line says where it stands.
use Rattle.std.specs.Prelude.{ℕ, Bool, ◌&&◌, List, [], ◌∷◌, ◌++◌, length, Result, Ok, Err, if◌then◌else◌, codes, bytes_eq}
use Rattle.itm_types.specs.Calls.{is_begin}
use Rattle.itm_types.specs.declared.call.ActionKind.TheVariants.{Undo}
use Rattle.itm_types.specs.declared.call.Props.{Props}
use Rattle.itm_types.specs.declared.call.Ran.{Ran}
use Rattle.itm_types.specs.declared.limits.Depth.{Depth}
use Rattle.script_fields.specs.declared.fault.FaultKind.{FaultKind}
use Rattle.script_fields.specs.declared.fault.FaultKind.TheVariants as operands
use Rattle.script_fields.specs.Operands.{◌>>=◌, both, number, function, exactly}
use Rattle.tx_attempts.specs.declared.attempt.Again.{Again}
use Rattle.tx_attempts.specs.declared.attempt.CallRecord.{CallRecord}
use Rattle.tx_attempts.specs.declared.attempt.Outcome.{Outcome}
use Rattle.tx_history.specs.Versions.{memory_limit, thread_limit}
use Rattle.tx_history.specs.declared.history.Version.{Version}
use Rattle.tx_history.specs.declared.history.Version.TheVariants.{One, Two, Three}
use Rattle.history_reader.specs.declared.fault.ReadKind.{ReadKind}
use Rattle.history_reader.specs.declared.fault.ReadKind.TheVariants as kinds
use Rattle.history_reader.specs.declared.state.Behind.{Behind}
use Rattle.history_reader.specs.declared.state.Behind.TheVariants as behinds
use Rattle.history_reader.specs.declared.state.Head.{Head}
use Rattle.history_reader.specs.declared.state.Place.{Place}
use Rattle.history_reader.specs.declared.state.Place.TheVariants as places
use Rattle.history_reader.specs.declared.state.State.{State}
use Rattle.history_reader.specs.Faults.{told}
use Rattle.history_reader.specs.Fields.{fields, next, next_three, none, one}
use Rattle.history_reader.specs.Numbers.{depth, thread, nth}
use Rattle.history_reader.specs.Words.{outcome, kind, block_props}
use Rattle.history_reader.specs.Digits.{sized, memory_bytes, arena_bytes, restart_bytes}
use Rattle.history_reader.specs.Replies.{is_five}
use Rattle.history_reader.specs.Calls.{call_of}

-- nothing has been read
abbrev pub initial : State
initial = record { place = places.AtHeader; version = One; memory = []; attempts = []; arena = []; calls = []; restarts = []; ran = []; bytes = [] }

-- ## The fields behind the first one

unfoldable pub depth_of : List (List ℕ) → Result Depth FaultKind
depth_of fs = one fs >>= depth

unfoldable pub memory_of : ℕ → List (List ℕ) → Result (List ℕ) FaultKind
memory_of limit fs = one fs >>= memory_bytes limit

unfoldable pub arena_of : List (List ℕ) → Result (List ℕ) FaultKind
arena_of fs = one fs >>= arena_bytes

-- a thread, the try of its block and where it stands
abbrev pub try_of : ℕ → List ℕ → List ℕ → List ℕ → Result (ℕ × (ℕ × ℕ)) FaultKind
try_of last a b c = both (thread last a) (both (nth b) (number c))

-- how it ended, and the properties of its block
abbrev pub outcome_of : List ℕ → List ℕ → Result (Outcome × Props) FaultKind
outcome_of a b = both (outcome a) (block_props b)

unfoldable pub head_of : ℕ → List (List ℕ) → Result Head FaultKind
head_of limit fs =
    next_three fs >>= λ x. next x.3 >>= λ y. one y.1 >>= λ last. both (try_of limit x.0 x.1 x.2) (outcome_of y.0 last)
    >>= λ r. Ok (record { thread = r.0.0; nth = r.0.1.0; at = r.0.1.1; outcome = r.1.0; props = r.1.1 })

-- an action that ran: its kind, its function and its argument
unfoldable pub ran_of : List (List ℕ) → Result Ran FaultKind
ran_of fs =
    next_three fs >>= λ x. none x.3 >>= λ _. both (kind x.0) (both (function x.1) (number x.2))
    >>= λ r. Ok (record { kind = r.0; action = record { fun = r.1.0; arg = r.1.1 } })

-- an action that had run in a block before it ran again: its function and its argument
unfoldable pub undone_of : List (List ℕ) → Result Ran FaultKind
undone_of fs =
    next fs >>= λ x. one x.1 >>= λ last. both (function x.0) (number last)
    >>= λ r. Ok (record { kind = Undo; action = record { fun = r.0; arg = r.1 } })

-- the arena from which a block ran again, of so many bytes
unfoldable pub restart_of : ℕ → List (List ℕ) → Result (List ℕ) FaultKind
restart_of size fs = one fs >>= restart_bytes size

-- the clock and so many bytes
unfoldable pub final_of : ℕ → List (List ℕ) → Result (ℕ × List ℕ) FaultKind
final_of size fs = next fs >>= λ x. one x.1 >>= λ last. both (number x.0) (sized size last)

-- ## Lines

-- the attempt ends
abbrev pub ended : State → Head → State
ended s h = record s {
  place = places.Between;
  attempts = s.attempts ++ record {
    thread = h.thread;
    nth = h.nth;
    began = 0;
    at = h.at;
    props = h.props;
    arena = s.arena;
    calls = record { list = s.calls; room = 0 };
    restarts = s.restarts;
    ran = s.ran;
    outcome = h.outcome;
  } ∷ [];
  arena = [];
  calls = [];
  restarts = [];
  ran = [];
}

unfoldable pub depth_line : State → List ℕ → List (List ℕ) → Result State FaultKind
depth_line s word fs = exactly (codes "depth") word >>= λ _. depth_of fs >>= λ d. Ok (record s { place = places.AtMemory; version = Three d })

unfoldable pub memory_line : State → List ℕ → List (List ℕ) → Result State FaultKind
memory_line s word fs = exactly (codes "memory") word >>= λ _. memory_of (memory_limit s.version) fs >>= λ bytes. Ok (record s { place = places.Between; memory = bytes })

unfoldable pub head_line : State → List (List ℕ) → Result State FaultKind
head_line s fs = head_of (thread_limit s.version) fs >>= λ h. Ok (record s { place = places.AtArena h })

unfoldable pub final_line : State → List (List ℕ) → Result State FaultKind
final_line s fs = final_of (length s.memory) fs >>= λ x. Ok (record s { place = places.AtEnd x.0; bytes = x.1 })

unfoldable pub arena_line : State → Head → List ℕ → List (List ℕ) → Result State FaultKind
arena_line s h word fs = exactly (codes "arena") word >>= λ _. arena_of fs >>= λ bytes. Ok (record s { place = places.InCalls h behinds.Call; arena = bytes })

-- a block within another was entered
abbrev pub is_entered : CallRecord → Bool
is_entered e = is_begin e.call && is_five e.reply

-- that it ran again may stand right behind its begin, where the version tells of that
abbrev pub behind_call : Version → CallRecord → Behind
behind_call One e = behinds.Call
behind_call Two e = if is_entered e then behinds.Begin else behinds.Call
behind_call (Three d) e = if is_entered e then behinds.Begin else behinds.Call

unfoldable pub call_line : State → Head → List (List ℕ) → Result State FaultKind
call_line s h fs = call_of fs >>= λ e. Ok (record s { place = places.InCalls h (behind_call s.version e); calls = s.calls ++ e ∷ [] })

-- the block ran again whose begin is the last call
unfoldable pub restart_line : State → Head → List (List ℕ) → Result State FaultKind
restart_line s h fs =
    restart_of (length s.arena) fs
    >>= λ bytes. Ok (record s { place = places.InCalls h behinds.Restart; restarts = s.restarts ++ record { kept = length s.calls; arena = bytes; undone = [] } ∷ [] })

-- an action that had run in the last one of these before it ran again
abbrev pub with_undone : List Again → Ran → List Again
with_undone [] r = []
with_undone (a ∷ []) r = record a { undone = a.undone ++ r ∷ [] } ∷ []
with_undone (a ∷ b ∷ rest) r = a ∷ with_undone (b ∷ rest) r

unfoldable pub undone_line : State → List (List ℕ) → Result State FaultKind
undone_line s fs = undone_of fs >>= λ r. Ok (record s { restarts = with_undone s.restarts r })

unfoldable pub ran_line : State → Head → List (List ℕ) → Result State FaultKind
ran_line s h fs = ran_of fs >>= λ r. Ok (record s { place = places.InRan h; ran = s.ran ++ r ∷ [] })

unfoldable pub end_line : State → Head → List (List ℕ) → Result State FaultKind
end_line s h fs = none fs >>= λ _. Ok (ended s h)

-- a new attempt, or the last line
unfoldable pub between_line : State → List ℕ → List (List ℕ) → Result State FaultKind
between_line s word fs =
    if bytes_eq word (codes "attempt") then head_line s fs else if bytes_eq word (codes "final") then final_line s fs else Err operands.Operand

-- an action that ran, or the attempt's end
unfoldable pub later_line : State → Head → List ℕ → List (List ℕ) → Result State FaultKind
later_line s h word fs =
    if bytes_eq word (codes "ran") then ran_line s h fs else if bytes_eq word (codes "end") then end_line s h fs else Err operands.Operand

-- or that a block ran again, right behind its begin, and then an action that had run in it before
unfoldable pub again_or_later : Behind → State → Head → List ℕ → List (List ℕ) → Result State FaultKind
again_or_later behinds.Call s h word fs = later_line s h word fs
again_or_later behinds.Begin s h word fs = if bytes_eq word (codes "restart") then restart_line s h fs else later_line s h word fs
again_or_later behinds.Restart s h word fs = if bytes_eq word (codes "undone") then undone_line s fs else later_line s h word fs

-- or a call
unfoldable pub call_or_later : Behind → State → Head → List ℕ → List (List ℕ) → Result State FaultKind
call_or_later b s h word fs = if bytes_eq word (codes "call") then call_line s h fs else again_or_later b s h word fs

-- what fields say by where they stand
unfoldable pub placed : Place → State → List ℕ → List (List ℕ) → Result State FaultKind
placed places.AtHeader s word fs = Err operands.Operand
placed places.AtDepth s word fs = depth_line s word fs
placed places.AtMemory s word fs = memory_line s word fs
placed places.Between s word fs = between_line s word fs
placed (places.AtArena h) s word fs = arena_line s h word fs
placed (places.InCalls h b) s word fs = call_or_later b s h word fs
placed (places.InRan h) s word fs = later_line s h word fs
placed (places.AtEnd clock) s word fs = Err operands.Operand

-- the name of the format, with its version
abbrev pub header_line : State → List ℕ → Result State ReadKind
header_line s line =
    if bytes_eq line (codes "itm-history 1") then Ok (record s { place = places.AtMemory })
    else if bytes_eq line (codes "itm-history 2") then Ok (record s { place = places.AtMemory; version = Two })
    else if bytes_eq line (codes "itm-history 3") then Ok (record s { place = places.AtDepth })
    else Err kinds.Header

abbrev pub fields_line : State → List ℕ → Result State ReadKind
fields_line s line = told (next (fields line) >>= λ x. placed s.place s x.0 x.1)

abbrev pub by_place : Place → State → List ℕ → Result State ReadKind
by_place places.AtHeader s line = header_line s line
by_place places.AtDepth s line = fields_line s line
by_place places.AtMemory s line = fields_line s line
by_place places.Between s line = fields_line s line
by_place (places.AtArena h) s line = fields_line s line
by_place (places.InCalls h b) s line = fields_line s line
by_place (places.InRan h) s line = fields_line s line
by_place (places.AtEnd clock) s line = fields_line s line

-- what one more line says after the lines so far
unfoldable pub meaning : State → List ℕ → Result State ReadKind
meaning s line = by_place s.place s line
