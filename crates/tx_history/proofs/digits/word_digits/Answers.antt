use Rattle.std.proofs.Common.{◌∙◌, arith}
use Rattle.tx_history.proofs.Common.{length-set, lower_digits}
use Rattle.hex.proofs.Pairs.{encode_step, encode_done}
use Rattle.tx_history.proofs.digits.word_digits.Goals as goal

pub bytes-preserved : goal.bytes-preserved
bytes-preserved c =
    let inv = c.bytes.invariant in record {
      written = encode_step lower_digits c.args.word.now c.bytes.digits c.bytes.i _ _ (omega arith) (omega (arith, inv.size)) c.digit.ensures c.digit-in-bytes.ensures inv.written;
      size = length-set _ _ _ ∙ length-set _ _ _ ∙ inv.size;
    }

pub returns : goal.returns
returns c =
    let inv = c.bytes.invariant in
    encode_done _ _ _ c.bytes.i (omega arith) (omega (arith, inv.size)) inv.written
