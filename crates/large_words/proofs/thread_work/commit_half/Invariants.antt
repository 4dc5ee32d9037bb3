use Rattle.shared_words.specs.Passes.{Owns}
use Rattle.large_words.proofs.thread_work.commit_half.Given as goal

abbrev pub invariant-loop-turn : goal.invariant-loop-turn
invariant-loop-turn l = Owns l.words l.thread.pass
