use Rattle.shared_words.specs.Passes.{Owns}
use Rattle.bench_loads.proofs.bodies.write_all.Given as goal

abbrev pub invariant-loop-word : goal.invariant-loop-word
invariant-loop-word l = Owns l.words l.thread.pass
