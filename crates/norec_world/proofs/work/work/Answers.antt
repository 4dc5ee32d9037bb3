use Rattle.norec_world.proofs.{work_more, work_none}
use Rattle.norec_world.proofs.work.work.Goals as goal

pub loop-actor-init : goal.loop-actor-init
loop-actor-init g c = work_none c.requires

pub loop-actor-preserved : goal.loop-actor-preserved
loop-actor-preserved g c = work_more c.loop-actor.invariant c.in-Ready.is c.call_next.ensures.worked
