use Rattle.std.proofs.Common.{sym, ◌∙◌}
use Rattle.step_picture.proofs.Backs.{reply_back}
use Rattle.step_picture.proofs.walks.back_in.Goals as goal

pub loop-at-preserved : goal.loop-at-preserved
loop-at-preserved c = reply_back c.args.marks.now c.args.thread c.args.calls c.loop-at.at c.loop-at.best c.loop-at-test.true (sym c.calls_at.ensures ∙ c.in_default.is) ∙ c.loop-at.invariant
