use Rattle.shared_words.specs.Passes.{Owns}
use Rattle.bench_loads.proofs.sites.try_again.Given as goal

abbrev pub invariant-loop : goal.invariant-loop
invariant-loop g l = Owns l.words l.thread.pass
