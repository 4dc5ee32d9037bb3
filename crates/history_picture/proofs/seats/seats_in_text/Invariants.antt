use Rattle.std.proofs.Common.{◌≡◌, take}
use Rattle.history_picture.proofs.Common.{seats_from}
use Rattle.history_picture.proofs.seats.seats_in_text.Given as goal

abbrev pub invariant-loop-place : goal.invariant-loop-place
invariant-loop-place l = l.seats.items ≡ seats_from 0 (take l.place l.attempts)
