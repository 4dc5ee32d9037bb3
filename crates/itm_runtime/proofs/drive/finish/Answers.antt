use Rattle.std.proofs.Common.{[], refl, subst, sym}
use Rattle.itm_runtime.proofs.Common.{Finishes, Next, view_of}
use Rattle.itm_runtime.proofs.DueSteps.{none_due}
use Rattle.itm_runtime.proofs.drive.finish.Goals as goal

pub returns-in-None : goal.returns-in-None
returns-in-None g c =
    subst (λ (x : Next). Finishes c.args.words.now (view_of c.args.pass.now) c.args.engine.now x c.args.answer.now c.args.pass.now c.args.engine.now) (sym (none_due c.args.first c.args.answer.now c.in-None.is))
    (record { own = c.requires.own; steps = []; leads = (refl, refl, refl) })
