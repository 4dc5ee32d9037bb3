use Rattle.std.proofs.Common.{refl}
use Rattle.norec_engine.proofs.RoundSteps.{start_revocable, start_waits, starts_here}
use Rattle.norec_engine.proofs.engine.Engine.starts_round.Goals as goal

pub returns-in-RoundStart : goal.returns-in-RoundStart
returns-in-RoundStart c =
    let s = c.self.inside in
    (λ told. starts_here s.irrevocable s.state s.pending c.args.self.now c.self.view_is (start_revocable s.irrevocable s.state s.pending c.self.invariant c.in-RoundStart.is) c.in-RoundStart.is, λ v. refl)

pub returns-in_default : goal.returns-in_default
returns-in_default c =
    let s = c.self.inside in
    (λ told. absurd (cc), λ v. absurd (c.in_default.not-RoundStart (start_waits s.irrevocable s.state s.pending c.args.self.now c.self.view_is v)))
