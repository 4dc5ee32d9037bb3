use Rattle.std.proofs.Common.{refl}
use Rattle.norec_engine.proofs.RoundSteps.{end_revocable, end_waits, ends_here}
use Rattle.norec_engine.proofs.engine.Engine.ends_round.Goals as goal

pub returns-in-RoundEnd : goal.returns-in-RoundEnd
returns-in-RoundEnd c =
    let s = c.self.inside in
    (λ told. ends_here s.irrevocable s.state s.pending c.args.self.now c.self.view_is (end_revocable s.irrevocable s.state s.pending c.self.invariant c.in-RoundEnd.is) c.in-RoundEnd.is, λ v. refl)

pub returns-in_default : goal.returns-in_default
returns-in_default c =
    let s = c.self.inside in
    (λ told. absurd (cc), λ v. absurd (c.in_default.not-RoundEnd (end_waits s.irrevocable s.state s.pending c.args.self.now c.self.view_is v)))
