-- What the program says and answers.
use Rattle.std.specs.Prelude.{◌≡◌, ◌⊎◌, ℕ, List, Option, codes}
use Rattle.history_reader.specs.Reading.{read_of}
use Rattle.itmrun.specs.declared.command.Task.{Task}
use Rattle.itmrun.specs.declared.command.Task.TheVariants as tasks
use Rattle.itmrun.specs.declared.command.CommandFault.{CommandFault}
use Rattle.itmrun.specs.declared.command.CommandFault.TheVariants as faults
use Rattle.run_commands.specs.Running.{running}
use Rattle.run_commands.specs.Threading.{threading}
use Rattle.script_asm.specs.Assembly.{program_of}
use Rattle.script_fields.specs.declared.fault.AsmFault.{AsmFault}
use Rattle.text_commands.specs.Answers.{Answers, Says}
use Rattle.text_commands.specs.Commands.{printing, judging}
use Rattle.text_commands.specs.declared.failure.Failure.TheVariants.{NoMemory}
use Rattle.text_commands.specs.Lines.{failure_line, failure_status, script_line}

-- the word of a task on the command line
unfoldable pub word_of : Task → List ℕ
word_of tasks.Asm = codes "asm"
word_of tasks.Sched = codes "sched"
word_of tasks.Threads = codes "threads"
word_of tasks.Check = codes "check"

-- the status, and what the errors got, are those of the task's command with this text and some writer
abbrev pub Answered : Task → List ℕ → ℕ → Option (List ℕ) → Option (List ℕ) → Type 0
Answered tasks.Asm text status old new = (before after : Option (List ℕ)) × Answers printing status (program_of text) before after old new
Answered tasks.Sched text status old new = (before after : Option (List ℕ)) × Answers running status (program_of text) before after old new
Answered tasks.Threads text status old new = (before after : Option (List ℕ)) × Answers threading status (program_of text) before after old new
Answered tasks.Check text status old new = (before after : Option (List ℕ)) × Answers judging status (read_of text) before after old new

abbrev pub Does : Task → ℕ → Option (List ℕ) → Option (List ℕ) → Type 0
Does task status old new = (text : List ℕ) × Answered task text status old new

-- how the program is used
abbrev pub usage_line : List ℕ
usage_line = codes "itmrun: usage: itmrun asm|sched|threads|check FILE\n"

-- why the words say nothing that can be done
unfoldable pub fault_line : CommandFault → List ℕ
fault_line faults.Usage = usage_line
fault_line faults.Memory = failure_line script_line NoMemory

abbrev pub fault_status : CommandFault → ℕ
fault_status faults.Usage = 1
fault_status faults.Memory = failure_status {F = AsmFault} NoMemory

-- one of the commands is done, or it is told why none is
abbrev pub Runs : ℕ → Option (List ℕ) → Option (List ℕ) → Type 0
Runs status old new = ((task : Task) × Does task status old new) ⊎ ((fault : CommandFault) × Says (fault_line fault) (fault_status fault) status old new)
