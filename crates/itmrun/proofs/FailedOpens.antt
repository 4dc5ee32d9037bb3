-- A file that is not opened is a text of which no byte is read.
use Rattle.std.proofs.Common.{ℕ, List, [], Option, None, Err}
use Rattle.script_fields.specs.declared.fault.AsmFault.{AsmFault}
use Rattle.text_commands.specs.Answers.{Says}
use Rattle.text_commands.specs.Lines.{failure_line, failure_status, script_line}
use Rattle.text_commands.specs.declared.failure.Failure.TheVariants.{Reading}
use Rattle.itmrun.{specs.declared.command.Task.Task, specs.Doing.Does}
use Rattle.itmrun.specs.declared.command.Task.TheVariants as tasks

pub failed_open : (task : Task) (status : ℕ) (old new : Option (List ℕ)) → Says (failure_line script_line Reading) (failure_status {F = AsmFault} Reading) status old new → Does task status old new
failed_open tasks.Asm status old new t = ([], (None, None, (Err Reading, tt, t)))
failed_open tasks.Sched status old new t = ([], (None, None, (Err Reading, tt, t)))
failed_open tasks.Threads status old new t = ([], (None, None, (Err Reading, tt, t)))
failed_open tasks.Check status old new t = ([], (None, None, (Err Reading, tt, t)))
