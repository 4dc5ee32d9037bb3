use Rattle.run_commands.proofs.WrittenRuns.{never_held, output}
use Rattle.run_commands.proofs.on_threads.play.Goals as goal

pub returns : goal.returns
returns g c = output c.args.program.now c.run_threads.result c.tell_run.result _ _ c.run_threads.ensures.ran c.run_threads.ensures.limited c.tell_run.ensures

pub tell_run-requires-clause-free : goal.tell_run-requires-clause-free
tell_run-requires-clause-free g c = never_held c.args.program.now c.run_threads.result c.requires c.run_threads.ensures.held
