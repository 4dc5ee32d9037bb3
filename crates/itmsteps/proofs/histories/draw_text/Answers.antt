use Rattle.std.proofs.Common.{inl, refl, Ok, Err}
use Rattle.itmsteps.proofs.Common.{Appends-nil}
use Rattle.itmsteps.proofs.histories.draw_text.Goals as goal

pub returns-in-Ok : goal.returns-in-Ok
returns-in-Ok g c =
    let drawn = c.in-Ok.ensures in
    (drawn.0, drawn.1, (Ok tt, drawn.2, inl (refl, Appends-nil _)))

pub returns-in-Err : goal.returns-in-Err
returns-in-Err g c =
    let drawn = c.in-Err.ensures in
    (drawn.0, drawn.1, (Err c.in-Err.failure, drawn.2, c.tell_unread.ensures))
