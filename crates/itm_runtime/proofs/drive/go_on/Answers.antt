use Rattle.std.proofs.Common.{subst}
use Rattle.itm_runtime.proofs.Common.{InCall, Load, view_of, waits_for}
use Rattle.itm_runtime.proofs.drive.go_on.Goals as goal

pub round-requires : goal.round-requires
round-requires g c =
    let starts = c.starts_round.ensures.0 c.if-starts_round.true in
    let d = c.requires.due in
    record { own = c.requires.own; starts = starts; due = (d.0, subst (InCall d.0 (view_of c.args.pass.now) c.args.engine.now) (waits_for d.0 _ _ c.args.step (Load 0) d.1 starts.waits) d.1) }
