use Rattle.std.proofs.Common.{ℕ, slice_get}
use Rattle.step_picture.proofs.Common.{mark_at}
use Rattle.std.specs.Io.KnownBytes.{Appends}
use Rattle.picture_parts.specs.Texts.{first_texts}
use Rattle.step_picture.proofs.drawing.put_marks.Given as goal

abbrev pub invariant-loop-at : goal.invariant-loop-at
invariant-loop-at g l = Appends (g.W.Write.contents l.fn.writer) (g.W.Write.contents l.writer) (first_texts (λ (i : ℕ). mark_at l.columns l.marks i (slice_get l.marks i)) l.at)
