use Rattle.run_commands.proofs.ScheduleItems.{each_there}
use Rattle.run_commands.proofs.by_schedule.run_program.Goals as goal

pub run_items-requires-clause-there : goal.run_items-requires-clause-there
run_items-requires-clause-there g c =
    rw (c.deref.ensures.value, c.in_ok-each.ensures, c.threads.ensures.value) (each_there _)
