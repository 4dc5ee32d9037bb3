-- What is said of threads that fell short.
use Rattle.std.specs.Prelude.{ℕ, ◌+◌, Bool, true, false, List, [], ◌∷◌, ◌++◌, decimal, codes, Option, None, Some, if◌then◌else◌}
use Rattle.std.specs.List.{list_any}
use Rattle.tx_runs.specs.declared.ending.End.{End}
use Rattle.tx_runs.specs.declared.ending.End.TheVariants.{Finished, GaveUp, NoMemory}

-- the thread gave up or found no memory
abbrev pub fell_short : Option End → Bool
fell_short None = false
fell_short (Some Finished) = false
fell_short (Some GaveUp) = true
fell_short (Some NoMemory) = true

-- of a run after which the threads stand so
abbrev pub endings_status : List (Option End) → ℕ
endings_status endings = if list_any fell_short endings then 4 else 0

-- a line on a thread
unfoldable pub thread_line : ℕ → List ℕ → List ℕ
thread_line thread words = codes "itmrun: thread " ++ decimal thread ++ words

-- what is said of a thread that fell short
unfoldable pub ending_line : ℕ → Option End → List ℕ
ending_line thread None = codes ""
ending_line thread (Some Finished) = codes ""
ending_line thread (Some GaveUp) = thread_line thread (codes " gave up\n")
ending_line thread (Some NoMemory) = thread_line thread (codes " found no memory\n")

-- the lines of threads that are numbered from this one on
abbrev pub ending_lines : ℕ → List (Option End) → List ℕ
ending_lines thread [] = []
ending_lines thread (ending ∷ endings) = ending_line thread ending ++ ending_lines (thread + 1) endings
