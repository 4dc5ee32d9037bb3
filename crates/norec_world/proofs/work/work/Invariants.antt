use Rattle.norec_world.proofs.{HasWorked, in_transaction, rows_in, whole}
use Rattle.world_rules.specs.Sound.{work_left}
use Rattle.norec_world.proofs.work.work.Given as goal

abbrev pub invariant-loop-actor : goal.invariant-loop-actor
invariant-loop-actor g l = HasWorked g.P.Player l.memory (rows_in l.initial.ended) l.initial.actor (rows_in l.ended) l.actor

abbrev pub decreases-loop-actor : goal.decreases-loop-actor
decreases-loop-actor g l = work_left g.P.Player (whole g.P.Player (in_transaction l.initial.actor.engine) l.initial.actor.run.player) l.actor
