use Rattle.run_commands.proofs.Common.{assembled_nests}
use Rattle.run_commands.proofs.by_schedule.run.Goals as goal

pub run_program-requires : goal.run_program-requires
run_program-requires g c =
    let read = c.in_ok-program.ensures.read in
    assembled_nests read.0 c.in_ok-program.program read.2
