use Rattle.std.proofs.Common.{◌≡◌, ◌∷◌, ◌*◌, take, drop}
use Rattle.shared_words.proofs.Common.{bytes_of}
use Rattle.shared_words.proofs.bytes.cells_of_bytes.Given as goal

abbrev pub invariant-loop-i : goal.invariant-loop-i
invariant-loop-i l = (l.cells.items ≡ 0 ∷ drop 1 l.cells.items) × (bytes_of (drop 1 l.cells.items) ≡ take (8 * l.i) l.bytes)
