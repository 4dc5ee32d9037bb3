use Rattle.shared_words.specs.Passes.{Owns}
use Rattle.bench_loads.proofs.bodies.read_all.Given as goal

abbrev pub invariant-loop-number : goal.invariant-loop-number
invariant-loop-number l = Owns l.words l.thread.pass
