use Rattle.std.proofs.Common.{arith}
use Rattle.step_picture.proofs.Backs.{back_before}
use Rattle.step_picture.proofs.restarts.restart.Goals as goal

pub way_back-requires : goal.way_back-requires
way_back-requires c =
    let at = c.args.at in
    omega (arith, c.requires, c.back_in.ensures, back_before c.args.marks.now c.args.mark.now.event.thread c.in-Restarted.kept at at (omega arith))
