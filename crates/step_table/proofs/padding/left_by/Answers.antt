use Rattle.std.proofs.Common.{◌≡◌, length, ap, arith}
use Rattle.step_table.proofs.Common.{spelled}
use Rattle.hex.{proofs.HexLemmas.length-encode_with, specs.Hex.encode_lower, specs.Hex.lower_digits}
use Rattle.tx_history.specs.declared.pieces.Piece.{Piece}
use Rattle.step_table.proofs.padding.left_by.Goals as goal

pub returns-in-Hex : goal.returns-in-Hex
returns-in-Hex c =
    let bytes = c.in-Hex.bytes.now in
    let same : length (spelled c.args.piece.now) ≡ length (encode_lower bytes) = ap (λ (p : Piece). length (spelled p)) c.in-Hex.is in
    omega (arith, c.saturating_sub-in-Hex.ensures, c.saturating_sub-in-Hex-2.ensures, length-encode_with lower_digits bytes, same)
