-- What the program writes, says and answers.
use Rattle.std.specs.Prelude.{◌≡◌, ◌⊎◌, ℕ, Bool, true, false, List, [], length, take, codes, Option, Result, Ok, Err}
use Rattle.std.specs.Io.KnownBytes.{Appends}
use Rattle.world_rules.specs.World.{World}
use Rattle.run_commands.specs.Scheduled.{Begins, schedule_of}
use Rattle.script_asm.specs.Assembly.{program_of}
use Rattle.script_fields.specs.declared.fault.AsmFault.{AsmFault}
use Rattle.script_fields.specs.Faults.{kind_text}
use Rattle.script_program.specs.Listing.{Listing, threads_of}
use Rattle.script_vm.specs.Threads.{Thread, thread_rules}
use Rattle.step_table.specs.Rows.{Row, ScheduleFirst, ScheduleRows}
use Rattle.text_commands.specs.Answers.{Command, Outputs, Says}
use Rattle.text_commands.specs.declared.failure.Failure.{Failure}
use Rattle.text_commands.specs.declared.failure.Failure.TheVariants.{Faulty, NoMemory, NoThread, Reading, Writing}
use Rattle.text_commands.specs.Lines.{failure_status, script_line}
use Rattle.itmsteps.specs.declared.choice.Choice.{Choice}
use Rattle.itmsteps.specs.declared.command.CommandFault.{CommandFault}
use Rattle.itmsteps.specs.declared.command.CommandFault.TheVariants as faults
use Rattle.itmsteps.specs.Choices.{shown_text, view_of}
use Rattle.itmsteps.specs.Faults.{fault_text}
use Rattle.itmsteps.specs.Histories.{Drawn}

-- ## What is written

-- the events that the program's schedule asks for, and the text of their table or picture
pub record IsShown (choice : Choice) (p : Listing) (text : List ℕ) : Type 0 where
  pub first : World Thread
  pub begins : Begins p first
  pub rows : List Row
  pub last : World Thread
  pub leads : ScheduleRows thread_rules (schedule_of p) first rows last
  pub told : text ≡ shown_text choice.svg (view_of choice (length (threads_of p))) rows

-- a write failed, or the handing on of what was written: the first ones of those events, and a beginning of their text
pub record IsCutShown (choice : Choice) (p : Listing) (old new : Option (List ℕ)) : Type 0 where
  pub first : World Thread
  pub begins : Begins p first
  pub rows : List Row
  pub last : World Thread
  pub leads : ScheduleFirst thread_rules (schedule_of p) first rows last
  pub count : ℕ
  pub got : Appends old new (take count (shown_text choice.svg (view_of choice (length (threads_of p))) rows))

-- of a script its run is shown
abbrev pub showing : Choice → Command Listing AsmFault (Unit {0})
showing choice = record {
  writes = λ p end text. IsShown choice p text;
  cut = IsCutShown choice;
  status = λ end. 0;
  says = λ end. [];
  line = script_line;
  threads = false;
}

-- ## What is said

abbrev pub failure_line : Failure AsmFault → List ℕ
failure_line (Faulty f) = fault_text f.line (kind_text f.kind)
failure_line NoMemory = codes "itmsteps: no memory\n"
failure_line NoThread = codes "itmsteps: no thread\n"
failure_line Reading = codes "itmsteps: reading failed\n"
failure_line Writing = codes "itmsteps: writing failed\n"

-- what is said in the end
abbrev pub Ends : Result (Unit {0}) (Failure AsmFault) → ℕ → Option (List ℕ) → Option (List ℕ) → Type 0
Ends (Ok end) status old new = Says [] 0 status old new
Ends (Err failure) status old new = Says (failure_line failure) (failure_status failure) status old new

-- the run of this text is shown, or it is said why not
abbrev pub Answered : Choice → List ℕ → ℕ → Option (List ℕ) → Option (List ℕ) → Option (List ℕ) → Option (List ℕ) → Type 0
Answered choice text status old new errors_old errors_new =
    (done : Result (Unit {0}) (Failure AsmFault)) × Outputs (showing choice) done (program_of text) old new × Ends done status errors_old errors_new

-- what the choice says is done with this text: a history is drawn, and a script's run is shown
abbrev pub Done : Bool → Choice → List ℕ → ℕ → Option (List ℕ) → Option (List ℕ) → Option (List ℕ) → Option (List ℕ) → Type 0
Done true choice text status old new errors_old errors_new = Drawn text status old new errors_old errors_new
Done false choice text status old new errors_old errors_new = Answered choice text status old new errors_old errors_new

abbrev pub Does : Choice → List ℕ → ℕ → Option (List ℕ) → Option (List ℕ) → Type 0
Does choice text status old new = (before after : Option (List ℕ)) × Done choice.history choice text status before after old new

-- how the program is used
abbrev pub usage_line : List ℕ
usage_line = codes "itmsteps: usage: itmsteps [--threads N,N..] [--from N] [--to N] [--svg] FILE, or itmsteps --history --svg FILE\n"

-- why the words say nothing that can be done
unfoldable pub fault_line : CommandFault → List ℕ
fault_line faults.Usage = usage_line
fault_line faults.Memory = failure_line NoMemory

abbrev pub fault_status : CommandFault → ℕ
fault_status faults.Usage = 1
fault_status faults.Memory = failure_status {F = AsmFault} NoMemory

-- a run is shown or a history drawn, or it is told why nothing is
abbrev pub Runs : ℕ → Option (List ℕ) → Option (List ℕ) → Type 0
Runs status old new = ((choice : Choice) × (text : List ℕ) × Does choice text status old new) ⊎ ((fault : CommandFault) × Says (fault_line fault) (fault_status fault) status old new)
