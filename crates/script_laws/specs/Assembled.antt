-- The code of a script's threads is nested.
use Rattle.std.specs.Prelude.{◌≡◌, ℕ, List, [], Some, Ok, slice_get}
use Rattle.script_asm.specs.Assembly.{program_of}
use Rattle.script_program.specs.declared.instruction.Instruction.{Instruction}
use Rattle.script_program.specs.Listing.{Listing, threads_of}
use Rattle.script_vm.specs.Nesting.{Nests}

-- in each thread of the program the blocks and groups stand within each other
abbrev pub HasNestedCode : Listing → Type 0
HasNestedCode p = (place : ℕ) (code : List Instruction) → slice_get (threads_of p) place ≡ Some code → Nests code []

-- so it is in the program of each text that is a script
abbrev pub AreNested : Type 0
AreNested = (text : List ℕ) (p : Listing) → program_of text ≡ Ok p → HasNestedCode p
