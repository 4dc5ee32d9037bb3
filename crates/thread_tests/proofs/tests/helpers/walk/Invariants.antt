use Rattle.shared_words.specs.Passes.{Owns}
use Rattle.thread_tests.proofs.tests.helpers.walk.Given as goal

abbrev pub invariant-loop-row : goal.invariant-loop-row
invariant-loop-row g l = Owns l.words l.thread.pass
