use Rattle.std.proofs.Common.{ℕ, slice_get}
use Rattle.history_picture.proofs.Common.{seat_at}
use Rattle.std.specs.Io.KnownBytes.{Appends}
use Rattle.picture_parts.specs.Texts.{first_texts}
use Rattle.history_picture.proofs.drawing.put_seats.Given as goal

abbrev pub invariant-loop-at : goal.invariant-loop-at
invariant-loop-at g l = Appends (g.W.Write.contents l.fn.writer) (g.W.Write.contents l.writer) (first_texts (λ (i : ℕ). seat_at l.attempts l.columns l.flawed i (slice_get l.seats i)) l.at)
