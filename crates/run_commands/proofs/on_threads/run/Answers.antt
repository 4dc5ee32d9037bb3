use Rattle.run_commands.proofs.Common.{assembled_nests}
use Rattle.run_commands.proofs.on_threads.run.Goals as goal

pub play-requires : goal.play-requires
play-requires g c =
    let read = c.in_ok-program.ensures.read in
    assembled_nests read.0 c.in_ok-program.program read.2
