use Rattle.norec_engine.proofs.Common.{Aim, RoundRow}
use Rattle.norec_data.specs.declared.pending.Pending.TheVariants as waits
use Rattle.norec_engine.proofs.RoundSteps.{left_here, resumed_here}
use Rattle.norec_engine.proofs.engine.Engine.row_loaded.Goals as goal

pub invariant_of-self : goal.invariant_of-self
invariant_of-self c =
    let s = c.self.inside in
    let l = c.requires.loads in
    left_here s.irrevocable s.state s.pending c.args.self.now c.self.view_is c.self.invariant (λ (aim : Aim). RoundRow aim l.0) l.1 l.2 (waits.RoundRow c.in-RoundRow.row) c.in-RoundRow.is c.args.seen _ _ c.resume-turn.ensures _ _ _ _ c.take.ensures

pub returns : goal.returns
returns c =
    let s = c.self.inside in
    let l = c.requires.loads in
    resumed_here s.irrevocable s.state s.pending c.args.self.now c.self.view_is c.self.invariant (λ (aim : Aim). RoundRow aim l.0) l.1 l.2 (waits.RoundRow c.in-RoundRow.row) c.in-RoundRow.is c.args.seen _ _ c.resume-turn.ensures _ _ _ _ c.take.ensures
