use Rattle.norec_world.proofs.{Next, Ready, WritesDown, next_in, rows_in, Option, Step, ap, sym, subst}
use Rattle.norec_world.proofs.actor.proceed.Goals as goal

pub returns-in-None-clause-recorded : goal.returns-in-None-clause-recorded
returns-in-None-clause-recorded g c call step is =
    subst (λ (x : Next). WritesDown g.P.Player (rows_in c.args.ended.now) (record c.args.actor.now { status = Ready }) call x (rows_in c.end_call.new.ended) c.end_call.new.actor) (sym (ap (λ (n : Option Step). next_in n c.args.answer.now) c.in-None.is))
    (c.end_call.ensures.recorded call step is)
