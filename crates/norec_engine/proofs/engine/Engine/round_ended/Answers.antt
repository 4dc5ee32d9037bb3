use Rattle.norec_engine.proofs.Common.{RoundEnd}
use Rattle.norec_data.specs.declared.pending.Pending.TheVariants as waits
use Rattle.norec_engine.proofs.RoundSteps.{left_here, resumed_here, end_waits}
use Rattle.norec_engine.proofs.engine.Engine.round_ended.Goals as goal

pub invariant_of-self : goal.invariant_of-self
invariant_of-self c =
    let s = c.self.inside in
    let v = c.requires.ends in
    let is = end_waits s.irrevocable s.state s.pending c.args.self.now c.self.view_is v in
    left_here s.irrevocable s.state s.pending c.args.self.now c.self.view_is c.self.invariant RoundEnd 0 v waits.RoundEnd is c.args.seen _ _ c.resume-turn.ensures _ _ _ _ c.take.ensures

pub returns : goal.returns
returns c =
    let s = c.self.inside in
    let v = c.requires.ends in
    let is = end_waits s.irrevocable s.state s.pending c.args.self.now c.self.view_is v in
    resumed_here s.irrevocable s.state s.pending c.args.self.now c.self.view_is c.self.invariant RoundEnd 0 v waits.RoundEnd is c.args.seen _ _ c.resume-turn.ensures _ _ _ _ c.take.ensures
