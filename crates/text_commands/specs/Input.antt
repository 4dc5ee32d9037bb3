-- What a reader gave.
use Rattle.std.specs.Prelude.{ℕ, ◌≤◌, List, length, Option}
use Rattle.std.specs.Io.KnownBytes.{Consumes}
use Rattle.text_commands.specs.declared.failure.Failure.{Failure}
use Rattle.text_commands.specs.declared.failure.Failure.TheVariants as failures
use Rattle.text_commands.specs.declared.input.InputFault.{InputFault}
use Rattle.text_commands.specs.declared.input.InputFault.TheVariants.{Memory, Reading}

-- at most so many bytes were taken from the front
abbrev pub IsFront : Option (List ℕ) → Option (List ℕ) → ℕ → Type 0
IsFront old new limit = (bytes : List ℕ) × (length bytes ≤ limit) × Consumes old new bytes

-- to a command that there is no text for this reason is this failure
abbrev pub failure_of : {F : Type 0} → InputFault → Failure F
failure_of Memory = failures.NoMemory
failure_of Reading = failures.Reading
