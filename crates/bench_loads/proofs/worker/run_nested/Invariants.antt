use Rattle.shared_words.specs.Passes.{Owns}
use Rattle.bench_loads.proofs.worker.run_nested.Given as goal

abbrev pub invariant-loop : goal.invariant-loop
invariant-loop l = Owns l.words l.thread.pass
