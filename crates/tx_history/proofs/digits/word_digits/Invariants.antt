use Rattle.std.proofs.Common.{◌≡◌, ◌*◌, ◌++◌, take, drop, length}
use Rattle.tx_history.proofs.Common.{encode_lower}
use Rattle.tx_history.proofs.digits.word_digits.Given as goal

abbrev pub invariant-bytes : goal.invariant-bytes
invariant-bytes l = record {
  written : take (2 * l.i) l.digits ++ encode_lower (drop l.i l.word) ≡ encode_lower l.word;
  size : length l.digits ≡ 16;
}
