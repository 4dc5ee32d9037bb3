use Rattle.std.proofs.Common.{◌∙◌, ap}
use Rattle.history_picture.proofs.Common.{Attempt, seat_of}
use Rattle.history_picture.proofs.Seated.{seated_all, seated_more}
use Rattle.history_picture.proofs.seats.seats_in_text.Goals as goal

pub loop-place-preserved : goal.loop-place-preserved
loop-place-preserved c =
    let i = c.loop-place.place in
    seated_more c.args.attempts.now c.loop-place.seats.items c.push.new.self.items i c.index-attempts-place.result c.seat_of.result c.loop-place-test.true c.loop-place.invariant
    (c.seat_of.ensures ∙ ap (λ (a : Attempt). seat_of i a) c.index-attempts-place.is) c.in_ok-push.ensures.items

pub returns : goal.returns
returns c = seated_all c.args.attempts.now c.loop-place.seats.items c.loop-place.place c.loop-place-test.false c.loop-place.invariant
