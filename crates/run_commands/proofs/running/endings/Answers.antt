use Rattle.std.proofs.Common.{◌∙◌, arith}
use Rattle.run_commands.proofs.ScheduleItems.{endings_more}
use Rattle.run_commands.proofs.running.endings.Goals as goal

pub loop-thread-preserved : goal.loop-thread-preserved
loop-thread-preserved c = record {
  items = c.push.ensures.items ∙ endings_more c.args.world.now c.loop-thread.thread c.loop-thread.endings.items c.ending.result c.loop-thread.invariant.items c.ending.ensures;
  len = omega (arith, c.push.ensures.len, c.loop-thread.invariant.len);
}
