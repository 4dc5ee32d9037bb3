use Rattle.shared_words.specs.Passes.{Owns}
use Rattle.large_words.proofs.thread_work.add_to_pages.Given as goal

abbrev pub invariant-loop-mebibyte : goal.invariant-loop-mebibyte
invariant-loop-mebibyte l = Owns l.words l.thread.pass
