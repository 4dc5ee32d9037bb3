use Rattle.std.proofs.Common.{ℕ, length, slice_get}
use Rattle.step_picture.proofs.Common.{Appends-nil, mark_at, puts_cut}
use Rattle.picture_parts.proofs.Texts.{more_texts, texts_stop}
use Rattle.step_picture.proofs.drawing.put_marks.Goals as goal

pub loop-at-init : goal.loop-at-init
loop-at-init g c = Appends-nil _

pub loop-at-preserved : goal.loop-at-preserved
loop-at-preserved g c = more_texts (λ (i : ℕ). mark_at c.args.columns.now c.args.marks.now i (slice_get c.args.marks.now i)) _ _ _ c.loop-at.at c.loop-at.invariant c.in_ok-put_mark.ensures

pub returns-in_err-put_mark : goal.returns-in_err-put_mark
returns-in_err-put_mark g c = puts_cut _ _ _ _ c.from_residual.ensures.0 (texts_stop (λ (i : ℕ). mark_at c.args.columns.now c.args.marks.now i (slice_get c.args.marks.now i)) _ _ _ c.loop-at.at (length c.args.marks.now) c.loop-at-test.true c.loop-at.invariant c.in_err-put_mark.ensures)
