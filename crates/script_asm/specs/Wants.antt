-- Want of memory: when it may be told, and in which line.
use Rattle.std.specs.Prelude.{◌≡◌, ◌⊎◌, ℕ, ◌+◌, ◌<◌, ◌≤◌, List, length, take, slice_get, Option, Some, None, Result, Ok, Err}
use Rattle.std.specs.Str.Lines.{lines}
use Rattle.script_fields.specs.declared.fault.FaultKind.TheVariants as kinds
use Rattle.script_fields.specs.declared.fault.AsmFault.{AsmFault}
use Rattle.script_program.specs.declared.limits.TheConstants.{MAX_TEXT}
use Rattle.script_asm.specs.declared.state.State.{State}
use Rattle.script_asm.specs.declared.stop.Stop.{Stop}
use Rattle.script_asm.specs.declared.stop.Stop.TheVariants as stops
use Rattle.script_program.specs.Listing.{Listing, Shared}
use Rattle.script_program.specs.Sections.{code_total}
use Rattle.script_asm.specs.Assembly.{meaning, lines_say, initial, program_of}

abbrev pub init_count : Option Shared → ℕ
init_count None = 0
init_count (Some m) = length m.inits

-- what the lines have left to be kept: runs of bytes, items, sections that have ended, and the instructions of their code
abbrev pub kept : State → ℕ
kept s = init_count s.memory + length s.schedule.items + length s.threads.ended + code_total s.threads

-- more is kept, or more is open
abbrev pub Grows : State → State → Type 0
Grows old new = (kept old < kept new) ⊎ (length old.levels < length new.levels)

-- a line is well, and leaves more to be kept or more open
abbrev pub Adds : State → Result State AsmFault → Type 0
Adds old read = (t : State) × (read ≡ Ok t) × Grows old t

-- what a function returned is what reading gives, unless memory ran out
abbrev pub Fails : {Y : Type 0} → Stop → Result Y AsmFault → Type 0
Fails stops.Memory read = Unit {0}
Fails (stops.Fault f) read = read ≡ Err f

abbrev pub Gives : {X : Type 0} → Result X Stop → Result X AsmFault → Type 0
Gives (Ok x) read = read ≡ Ok x
Gives (Err e) read = Fails e read

-- the state that a line left is what the line says; memory is refused only to a line that leaves more
abbrev pub Steps : Result (Unit {0}) Stop → State → State → Result State AsmFault → Type 0
Steps (Ok _) old new read = read ≡ Ok new
Steps (Err stops.Memory) old new read = Adds old read
Steps (Err (stops.Fault f)) old new read = read ≡ Err f

-- memory was refused to line n of a text that is not too large: those before it are well, and it is well and leaves more
abbrev pub RunsOut : List ℕ → ℕ → Type 0
RunsOut text n =
    (length text ≤ MAX_TEXT) × (k : ℕ) × (s : State) × (line : List ℕ) × (n ≡ k + 1) × (lines_say initial 1 (take k (lines text)) ≡ Ok s)
    × (slice_get (lines text) k ≡ Some line) × Adds s (meaning s n line)

-- the answer for a text: its program, its first fault, or the line that memory was refused to
abbrev pub IsAnswer : Result Listing AsmFault → List ℕ → Type 0
IsAnswer (Ok p) text = program_of text ≡ Ok p
IsAnswer (Err f) text = ((f.kind ≡ kinds.Memory) × RunsOut text f.line) ⊎ (program_of text ≡ Err f)
