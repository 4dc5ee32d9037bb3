-- What a writer has once the events of a world were taken.
use Rattle.std.specs.Prelude.{ℕ, Bool, List, take, Option, Result, Ok, Err}
use Rattle.std.specs.Io.KnownBytes.{Appends, Keeps}
use Rattle.world_rules.specs.World.{World}
use Rattle.script_fields.specs.declared.fault.AsmFault.{AsmFault}
use Rattle.script_program.specs.declared.schedule.Item.{Item}
use Rattle.script_vm.specs.Threads.{Thread, thread_rules}
use Rattle.step_table.specs.declared.view.View.{View}
use Rattle.step_table.specs.Rows.{Row, ScheduleFirst, ScheduleRows}
use Rattle.text_commands.specs.declared.failure.Failure.{Failure}
use Rattle.text_commands.specs.declared.failure.Failure.TheVariants.{Faulty, NoMemory, NoThread, Reading, Writing}
use Rattle.itmsteps.specs.Choices.{shown_text}

-- the text of the events that these items ask for; where a write failed, a beginning of the text of some first ones; and where memory was refused, nothing
abbrev pub Tells : Bool → View → List Item → World Thread → World Thread → Option (List ℕ) → Option (List ℕ) → Result (Unit {0}) (Failure AsmFault) → Type 0
Tells svg view items first last old new (Ok x) = (rows : List Row) × ScheduleRows thread_rules items first rows last × Appends old new (shown_text svg view rows)
Tells svg view items first last old new (Err Writing) = (rows : List Row) × (n : ℕ) × ScheduleFirst thread_rules items first rows last × Appends old new (take n (shown_text svg view rows))
Tells svg view items first last old new (Err NoMemory) = Keeps old new
Tells svg view items first last old new (Err (Faulty f)) = ⊥
Tells svg view items first last old new (Err NoThread) = ⊥
Tells svg view items first last old new (Err Reading) = ⊥
