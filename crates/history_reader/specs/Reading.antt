-- A whole text: its history, or its first fault.
use Rattle.std.specs.Prelude.{◌≡◌, ◌⊎◌, ℕ, ◌+◌, ◌<◌, ◌==◌, List, [], ◌∷◌, ◌++◌, length, Result, Ok, Err, if◌then◌else◌}
use Rattle.std.specs.List.{slice_split}
use Rattle.script_fields.specs.Text.{is_feed}
use Rattle.tx_history.specs.declared.history.History.{History}
use Rattle.history_reader.specs.declared.fault.ReadKind.{ReadKind}
use Rattle.history_reader.specs.declared.fault.ReadKind.TheVariants as kinds
use Rattle.history_reader.specs.declared.fault.ReadFault.{ReadFault}
use Rattle.history_reader.specs.declared.state.Place.{Place}
use Rattle.history_reader.specs.declared.state.Place.TheVariants as places
use Rattle.history_reader.specs.declared.state.State.{State}
use Rattle.history_reader.specs.Lines.{initial, meaning}

-- a fault in line n
abbrev pub in_line : {A : Type 0} → ℕ → Result A ReadKind → Result A ReadFault
in_line n (Ok x) = Ok x
in_line n (Err k) = Err (record { line = n; kind = k })

infixl 10 ◌>>=◌
abbrev pub ◌>>=◌ : {A B E : Type 0} → Result A E → (A → Result B E) → Result B E
(Ok x) >>= f = f x
(Err e) >>= f = Err e

-- the history, once its last line was read; else one more line was due
abbrev pub whole : Place → State → Result History ReadKind
whole places.AtHeader s = Err kinds.Cut
whole places.AtDepth s = Err kinds.Cut
whole places.AtMemory s = Err kinds.Cut
whole places.Between s = Err kinds.Cut
whole (places.AtArena h) s = Err kinds.Cut
whole (places.InCalls h b) s = Err kinds.Cut
whole (places.InRan h) s = Err kinds.Cut
whole (places.AtEnd clock) s = Ok (record { version = s.version; memory = s.memory; attempts = s.attempts; clock = clock; bytes = s.bytes })

-- what stands behind the last line feed: nothing, or a line that is cut
unfoldable pub end_of : State → List ℕ → Result History ReadKind
end_of s rest = if length rest == 0 then whole s.place s else Err kinds.Cut

-- the lines in order, the first of them of this number, and what stands behind the last line feed
abbrev pub parts_say : State → ℕ → List (List ℕ) → Result History ReadFault
parts_say s n [] = in_line n (end_of s [])
parts_say s n (rest ∷ []) = in_line n (end_of s rest)
parts_say s n (line ∷ part ∷ parts) = in_line n (meaning s line) >>= λ t. parts_say t (n + 1) (part ∷ parts)

-- the history that the text is, or its first faulty line
unfoldable pub read_of : List ℕ → Result History ReadFault
read_of text = parts_say initial 1 (slice_split is_feed text)

-- ## Want of memory

-- what these lines leave, where all are well
abbrev pub lines_leave : State → List (List ℕ) → Result State ReadKind
lines_leave s [] = Ok s
lines_leave s (line ∷ lines) = meaning s line >>= λ t. lines_leave t lines

-- what the lines of an attempt leave: calls, blocks that ran again, actions that ran, and the attempt
abbrev pub recorded : State → ℕ
recorded t = length t.calls + (length t.restarts + (length t.ran + length t.attempts))

-- how much a line that stood at this place leaves to be kept
abbrev pub taken : Place → State → ℕ
taken places.AtHeader t = 0
taken places.AtDepth t = 0
taken places.AtMemory t = length t.memory
taken places.Between t = length t.bytes
taken (places.AtArena h) t = length t.arena
taken (places.InCalls h b) t = recorded t
taken (places.InRan h) t = recorded t
taken (places.AtEnd clock) t = 0

-- a line is well, and leaves something to be kept
abbrev pub Adds : (State → ℕ) → Result State ReadKind → Type 0
Adds amount read = (t : State) × (read ≡ Ok t) × (0 < amount t)

-- the state that a line left is what the line says; memory is refused only to a line that leaves something to be kept
abbrev pub Steps : (State → ℕ) → Result (Unit {0}) ReadKind → State → Result State ReadKind → Type 0
Steps amount (Ok _) new read = read ≡ Ok new
Steps amount (Err kinds.Memory) new read = Adds amount read
Steps amount (Err kinds.Header) new read = read ≡ Err kinds.Header
Steps amount (Err kinds.Line) new read = read ≡ Err kinds.Line
Steps amount (Err kinds.Size) new read = read ≡ Err kinds.Size
Steps amount (Err kinds.Cut) new read = read ≡ Err kinds.Cut

-- memory was refused to line n: those before it are well, and it is well and leaves more
abbrev pub RunsOut : List ℕ → ℕ → Type 0
RunsOut text n =
    (before after : List (List ℕ)) × (line : List ℕ) × (s : State) × (slice_split is_feed text ≡ before ++ line ∷ after) × (0 < length after)
    × (n ≡ length before + 1) × (lines_leave initial before ≡ Ok s) × Adds (taken s.place) (meaning s line)

-- the answer for a text: its history, its first fault, or the line that memory was refused to
abbrev pub IsAnswer : Result History ReadFault → List ℕ → Type 0
IsAnswer (Ok h) text = read_of text ≡ Ok h
IsAnswer (Err f) text = ((f.kind ≡ kinds.Memory) × RunsOut text f.line) ⊎ (read_of text ≡ Err f)

-- what a function returned is what reading gives in line n, unless memory ran out
abbrev pub Fails : ReadKind → ℕ → Result History ReadFault → Type 0
Fails kinds.Memory n read = Unit {0}
Fails kinds.Header n read = read ≡ Err (record { line = n; kind = kinds.Header })
Fails kinds.Line n read = read ≡ Err (record { line = n; kind = kinds.Line })
Fails kinds.Size n read = read ≡ Err (record { line = n; kind = kinds.Size })
Fails kinds.Cut n read = read ≡ Err (record { line = n; kind = kinds.Cut })

abbrev pub Gives : ℕ → Result History ReadKind → Result History ReadFault → Type 0
Gives n (Ok h) read = read ≡ Ok h
Gives n (Err kind) read = Fails kind n read
