use Rattle.std.proofs.Common.{◌≡◌, length, drop}
use Rattle.run_commands.proofs.Common.{left_of}
use Rattle.run_commands.proofs.SentTexts.{SendsFirst}
use Rattle.run_commands.proofs.telling.put_left.Given as goal

abbrev pub invariant-loop-attempt : goal.invariant-loop-attempt
invariant-loop-attempt g l = record {
  left : drop (length l.yielded) (left_of l.attempts) ≡ left_of l.attempt-iterator;
  sends : SendsFirst g.W.Write.contents (left_of l.attempts) l.fn.stream l.stream (length l.yielded);
}
