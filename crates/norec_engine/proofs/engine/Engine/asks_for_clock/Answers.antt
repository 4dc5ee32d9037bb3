use Rattle.norec_engine.proofs.RowSteps.{commit_comes}
use Rattle.norec_engine.proofs.engine.Engine.asks_for_clock.Goals as goal

pub returns-then-self-clause-called : goal.returns-then-self-clause-called
returns-then-self-clause-called c takes =
    let s = c.self.inside in
    commit_comes s.irrevocable s.state s.pending c.args.self.now c.self.view_is c.self.invariant takes

pub returns-clause-called : goal.returns-clause-called
returns-clause-called c takes =
    let s = c.self.inside in
    commit_comes s.irrevocable s.state s.pending c.args.self.now c.self.view_is c.self.invariant takes
