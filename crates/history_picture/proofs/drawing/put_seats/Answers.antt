use Rattle.std.proofs.Common.{ℕ, length, slice_get}
use Rattle.history_picture.proofs.Common.{more_texts, puts_cut, seat_at, texts_stop}
use Rattle.std.proofs.KnownBytes.{Appends-nil}
use Rattle.history_picture.proofs.drawing.put_seats.Goals as goal

pub loop-at-init : goal.loop-at-init
loop-at-init g c = Appends-nil _

pub loop-at-preserved : goal.loop-at-preserved
loop-at-preserved g c = more_texts (λ (i : ℕ). seat_at c.args.attempts.now c.args.columns.now c.args.flawed i (slice_get c.args.seats.now i)) _ _ _ c.loop-at.at c.loop-at.invariant c.in_ok-put_seat.ensures

pub returns-in_err-put_seat : goal.returns-in_err-put_seat
returns-in_err-put_seat g c = puts_cut _ _ _ _ c.from_residual.ensures.0 (texts_stop (λ (i : ℕ). seat_at c.args.attempts.now c.args.columns.now c.args.flawed i (slice_get c.args.seats.now i)) _ _ _ c.loop-at.at (length c.args.seats.now) c.loop-at-test.true c.loop-at.invariant c.in_err-put_seat.ensures)
