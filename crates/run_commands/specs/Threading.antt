-- The command that runs scripts on threads of their own.
use Rattle.std.specs.Prelude.{◌≡◌, ℕ, true, List, map, Option, Some, Result, Ok, Err, IfErr, IfOk}
use Rattle.std.specs.Io.KnownBytes.{Keeps}
use Rattle.arrayvec.specs.ArrayVec.{ArrayVec}
use Rattle.history_reader.specs.LegalTexts.{IsLegalText}
use Rattle.script_fields.specs.declared.fault.AsmFault.{AsmFault}
use Rattle.script_program.specs.Listing.{Listing}
use Rattle.text_commands.specs.Answers.{Command, HasFront}
use Rattle.text_commands.specs.Lines.{script_line}
use Rattle.text_commands.specs.declared.failure.Failure.{Failure}
use Rattle.text_commands.specs.declared.failure.Failure.TheVariants as failures
use Rattle.tx_history.specs.Bounds.{HistoryFits}
use Rattle.tx_history.specs.Histories.{history_text}
use Rattle.tx_history.specs.Spelling.{Writes}
use Rattle.report_rules.specs.declared.report.HostFault.{HostFault}
use Rattle.report_rules.specs.declared.report.HostFault.TheVariants as faults
use Rattle.report_rules.specs.declared.report.Report.{Report}
use Rattle.report_rules.specs.Reports.{Ran}
use Rattle.tx_runs.specs.declared.ending.End.{End}
use Rattle.worker_rules.specs.Gates.{all_let}
use Rattle.run_commands.specs.Endings.{ending_lines, endings_status}

-- a run of the program on threads, after which they stand so, and the text of its history
pub record IsThreadedRun (p : Listing) (endings : ArrayVec (Option End)) (text : List ℕ) : Type 0 where
  pub report : Report
  pub ran : Ran all_let p report  -- whose gate lets all calls through
  pub stand : endings.items ≡ map Some report.ends.items
  pub told : text ≡ history_text report.history
  pub read : IsLegalText text  -- so who checks it finds it legal

-- of a script the history of its program's run on threads is written
abbrev pub threading : Command Listing AsmFault (ArrayVec (Option End))
threading = record {
  writes = IsThreadedRun;
  cut = HasFront IsThreadedRun;
  status = λ endings. endings_status endings.items;
  says = λ endings. ending_lines 0 endings.items;
  line = script_line;
  threads = true;
}

-- why there is no history; no thread of a program that is run ends while it holds the clock
abbrev pub failure_of : HostFault → Failure AsmFault
failure_of faults.NoMemory = failures.NoMemory
failure_of faults.NoThread = failures.NoThread
failure_of faults.Held = failures.NoMemory

-- what is told of a run: its own history is written, and how its own threads ended is handed on; of one that gave no report nothing is written
abbrev pub TellsRun : Result Report HostFault → Result (ArrayVec (Option End)) (Failure AsmFault) → Option (List ℕ) → Option (List ℕ) → Type 0
TellsRun (Ok report) done old new = Writes old new done (history_text report.history) × IfOk done (λ endings. endings.items ≡ map Some report.ends.items) × IfErr done (λ failure. failure ≡ failures.Writing) × HistoryFits report.history
TellsRun (Err fault) done old new = (done ≡ Err (failure_of fault)) × Keeps old new
