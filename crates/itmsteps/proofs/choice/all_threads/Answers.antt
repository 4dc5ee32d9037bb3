use Rattle.std.proofs.Common.{◌∙◌, arith}
use Rattle.itmsteps.proofs.Threads.{thread_more}
use Rattle.itmsteps.proofs.choice.all_threads.Goals as goal

pub loop-thread-preserved : goal.loop-thread-preserved
loop-thread-preserved c = record {
  items = c.push.ensures.items ∙ thread_more c.loop-thread.thread c.loop-thread.columns.items c.loop-thread.invariant.items;
  len = omega (arith, c.push.ensures.len, c.loop-thread.invariant.len);
}
