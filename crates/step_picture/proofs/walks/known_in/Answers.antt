use Rattle.std.proofs.Common.{sym, ◌∙◌}
use Rattle.step_picture.proofs.Backs.{known_back}
use Rattle.step_picture.proofs.walks.known_in.Goals as goal

pub loop-at-preserved : goal.loop-at-preserved
loop-at-preserved c = known_back c.args.marks.now c.args.thread c.loop-at.at c.loop-at-test.true (sym c.look_at.ensures ∙ c.in_default.is) ∙ c.loop-at.invariant
