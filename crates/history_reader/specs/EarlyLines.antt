-- The lines of the first two versions as they were read before there were others: of at most 65,536 bytes and 32 threads. Where `again` is false, as in the first version, none tells of a block that ran again.
use Rattle.std.specs.Prelude.{ℕ, Bool, true, false, List, [], ◌∷◌, ◌++◌, Result, Ok, Err, if◌then◌else◌, codes, bytes_eq}
use Rattle.script_fields.specs.declared.fault.FaultKind.{FaultKind}
use Rattle.script_fields.specs.declared.fault.FaultKind.TheVariants as operands
use Rattle.script_fields.specs.Operands.{◌>>=◌, exactly}
use Rattle.tx_attempts.specs.declared.attempt.CallRecord.{CallRecord}
use Rattle.history_reader.specs.declared.fault.ReadKind.{ReadKind}
use Rattle.history_reader.specs.declared.state.Behind.{Behind}
use Rattle.history_reader.specs.declared.state.Behind.TheVariants as behinds
use Rattle.history_reader.specs.declared.state.Head.{Head}
use Rattle.history_reader.specs.declared.state.Place.{Place}
use Rattle.history_reader.specs.declared.state.Place.TheVariants as places
use Rattle.history_reader.specs.declared.state.State.{State}
use Rattle.history_reader.specs.Faults.{told}
use Rattle.history_reader.specs.Fields.{fields, next}
use Rattle.history_reader.specs.Calls.{call_of}
use Rattle.history_reader.specs.Lines.{again_or_later, arena_line, final_line, head_of, is_entered, later_line, memory_of}

unfoldable pub early_memory : State → List ℕ → List (List ℕ) → Result State FaultKind
early_memory s word fs = exactly (codes "memory") word >>= λ _. memory_of 65536 fs >>= λ bytes. Ok (record s { place = places.Between; memory = bytes })

unfoldable pub early_head : State → List (List ℕ) → Result State FaultKind
early_head s fs = head_of 31 fs >>= λ h. Ok (record s { place = places.AtArena h })

-- that a block ran again may stand right behind its begin
abbrev pub early_behind : Bool → CallRecord → Behind
early_behind false e = behinds.Call
early_behind true e = if is_entered e then behinds.Begin else behinds.Call

unfoldable pub early_call : Bool → State → Head → List (List ℕ) → Result State FaultKind
early_call again s h fs = call_of fs >>= λ e. Ok (record s { place = places.InCalls h (early_behind again e); calls = s.calls ++ e ∷ [] })

-- a line within an attempt that is no call
abbrev pub early_later : Bool → Behind → State → Head → List ℕ → List (List ℕ) → Result State FaultKind
early_later false b s h word fs = later_line s h word fs
early_later true b s h word fs = again_or_later b s h word fs

-- what fields say by where they stand
abbrev pub early_placed : Bool → Place → State → List ℕ → List (List ℕ) → Result State FaultKind
early_placed again places.AtHeader s word fs = Err operands.Operand
early_placed again places.AtDepth s word fs = Err operands.Operand
early_placed again places.AtMemory s word fs = early_memory s word fs
early_placed again places.Between s word fs =
    if bytes_eq word (codes "attempt") then early_head s fs else if bytes_eq word (codes "final") then final_line s fs else Err operands.Operand
early_placed again (places.AtArena h) s word fs = arena_line s h word fs
early_placed again (places.InCalls h b) s word fs = if bytes_eq word (codes "call") then early_call again s h fs else early_later again b s h word fs
early_placed again (places.InRan h) s word fs = later_line s h word fs
early_placed again (places.AtEnd clock) s word fs = Err operands.Operand

-- what a line says behind the first one
abbrev pub early_line : Bool → State → List ℕ → Result State ReadKind
early_line again s line = told (next (fields line) >>= λ x. early_placed again s.place s x.0 x.1)
