use Rattle.run_commands.proofs.ScheduleItems.{each_there}
use Rattle.itmsteps.proofs.showing.show_program.Goals as goal

pub show_items-requires-clause-there : goal.show_items-requires-clause-there
show_items-requires-clause-there g c =
    rw (c.deref.ensures.value, c.in_ok-each.ensures, c.threads.ensures.value) (each_there _)
