-- What is said of what went wrong, and the status that goes with it.
use Rattle.std.specs.Prelude.{ℕ, List, ◌++◌, decimal, codes}
use Rattle.script_fields.specs.declared.fault.AsmFault.{AsmFault}
use Rattle.script_fields.specs.Faults.{kind_text}
use Rattle.history_reader.specs.declared.fault.ReadFault.{ReadFault}
use Rattle.history_reader.specs.Faults.{kind_text as read_text}
use Rattle.text_commands.specs.declared.failure.Failure.{Failure}
use Rattle.text_commands.specs.declared.failure.Failure.TheVariants.{Faulty, NoMemory, NoThread, Reading, Writing}

-- the line on a text's fault
unfoldable pub fault_line : ℕ → List ℕ → List ℕ
fault_line line words = codes "itmrun: line " ++ decimal line ++ codes ": " ++ words ++ codes "\n"

-- of a text that is no script
abbrev pub script_line : AsmFault → List ℕ
script_line f = fault_line f.line (kind_text f.kind)

-- of one that is no history
abbrev pub history_line : ReadFault → List ℕ
history_line f = fault_line f.line (read_text f.kind)

-- what is said of a failure, by what is said of a fault
abbrev pub failure_line : {F : Type 0} → (F → List ℕ) → Failure F → List ℕ
failure_line line (Faulty f) = line f
failure_line line NoMemory = codes "itmrun: no memory\n"
failure_line line NoThread = codes "itmrun: no thread\n"
failure_line line Reading = codes "itmrun: reading failed\n"
failure_line line Writing = codes "itmrun: writing failed\n"

abbrev pub failure_status : {F : Type 0} → Failure F → ℕ
failure_status (Faulty f) = 2
failure_status NoMemory = 4
failure_status NoThread = 4
failure_status Reading = 5
failure_status Writing = 5
