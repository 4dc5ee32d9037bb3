-- The command that runs scripts.
use Rattle.std.specs.Prelude.{◌≡◌, ℕ, false, List, length, Option}
use Rattle.arrayvec.specs.ArrayVec.{ArrayVec}
use Rattle.tx_runs.specs.declared.ending.End.{End}
use Rattle.history_reader.specs.LegalTexts.{IsLegalText}
use Rattle.world_rules.specs.Commits.{CommitsInOrder}
use Rattle.world_rules.specs.Headline.{AreOpaque}
use Rattle.world_rules.specs.Tied.{AreTied}
use Rattle.world_rules.specs.World.{World, observed}
use Rattle.script_fields.specs.declared.fault.AsmFault.{AsmFault}
use Rattle.script_program.specs.Listing.{Listing, threads_of}
use Rattle.script_vm.specs.Threads.{Thread, thread_rules}
use Rattle.text_commands.specs.Answers.{Command}
use Rattle.text_commands.specs.Lines.{script_line}
use Rattle.tx_history.specs.Histories.{history_text}
use Rattle.report_rules.specs.Versions.{version_of}
use Rattle.run_commands.specs.Endings.{ending_lines, endings_status}
use Rattle.world_laws.specs.Starved.{IsFed, LeavesNoneOpen}
use Rattle.world_laws.specs.Told.{told_of}
use Rattle.run_commands.specs.Pages.{IsWorldOf}
use Rattle.run_commands.specs.Plays.{IsCutOff}
use Rattle.run_commands.specs.Scheduled.{Begins, endings_of, schedule_of}

-- a run of the program, after which the threads stand so, and the text of its history
pub record IsRun (p : Listing) (endings : ArrayVec (Option End)) (text : List ℕ) : Type 0 where
  pub world : World Thread
  pub of_program : IsWorldOf p world
  pub stand : endings.items ≡ endings_of (length (threads_of p)) world
  pub told : text ≡ history_text (told_of (version_of p) world)
  pub read : IsLegalText text  -- so who checks it finds it legal

-- A write failed, or the handing on of what was written: some first events of the program's schedule were taken, or all, and a beginning of the history was written, with all attempts that had ended before the last event. In the world that they lead to no thread that found no memory has an irrevocable attempt, nor one that has not ended.
pub record IsCutRun (p : Listing) (old new : Option (List ℕ)) : Type 0 where
  pub first : World Thread
  pub begins : Begins p first
  pub world : World Thread
  pub stops : IsCutOff thread_rules (version_of p) (schedule_of p) first world old new
  pub commits : CommitsInOrder world
  pub opaque : AreOpaque thread_rules (observed world)
  pub tied : AreTied thread_rules world
  pub fed : IsFed world
  pub none_open : LeavesNoneOpen world

-- of a script the history of its program's run is written
abbrev pub running : Command Listing AsmFault (ArrayVec (Option End))
running = record {
  writes = IsRun;
  cut = IsCutRun;
  status = λ endings. endings_status endings.items;
  says = λ endings. ending_lines 0 endings.items;
  line = script_line;
  threads = false;
}
