use Rattle.std.proofs.Common.{inl, refl, Ok, Err}
use Rattle.itmsteps.proofs.Common.{Appends-nil}
use Rattle.itmsteps.proofs.showing.steps.Goals as goal

pub returns-in-Ok : goal.returns-in-Ok
returns-in-Ok g c =
    let shown = c.in-Ok.ensures in
    (shown.0, shown.1, (Ok tt, shown.2, inl (refl, Appends-nil _)))

pub returns-in-Err : goal.returns-in-Err
returns-in-Err g c =
    let shown = c.in-Err.ensures in
    (shown.0, shown.1, (Err c.in-Err.failure, shown.2, c.tell.ensures))
