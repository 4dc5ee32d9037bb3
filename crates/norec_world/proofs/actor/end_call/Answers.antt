use Rattle.norec_world.proofs.{Answers, Call, Ready, Status, Waits, WritesDown, rows_in, ◌≡◌, sym, subst, ◌∙◌}
use Rattle.norec_world.proofs.actor.end_call.Goals as goal

pub returns-in-Waits-clause-recorded : goal.returns-in-Waits-clause-recorded
returns-in-Waits-clause-recorded g c call step is =
    let a = c.args.actor.now in
    let both : Waits call step ≡ Waits c.in-Waits.call c.in-Waits.step = sym is ∙ sym c.in-Waits.ensures.value in
    let same : call ≡ c.in-Waits.call = cc in
    subst (λ (x : Call). WritesDown g.P.Player (rows_in c.args.ended.now) (record a { status = Ready }) x (Answers c.args.answer.now) (rows_in c.settle.new.ended) c.settle.new.actor) (sym same)
    (subst (λ (s : Status). WritesDown g.P.Player (rows_in c.args.ended.now) (record a { status = s }) c.in-Waits.call (Answers c.args.answer.now) (rows_in c.settle.new.ended) c.settle.new.actor) c.replace.ensures.after c.settle.ensures.recorded)
