use Rattle.shared_words.specs.Passes.{Owns}
use Rattle.large_words.proofs.thread_work.commit_one.Given as goal

abbrev pub invariant-loop : goal.invariant-loop
invariant-loop l = Owns l.words l.thread.pass
