use Rattle.std.proofs.Common.{◌≡◌, ◌*◌, take}
use Rattle.shared_words.proofs.Common.{bytes_of, words_in}
use Rattle.shared_words.proofs.words.Words.close.Given as goal

abbrev pub invariant-loop-i : goal.invariant-loop-i
invariant-loop-i g l = take (8 * l.i) l.bytes ≡ bytes_of (take l.i (words_in l.closed))
