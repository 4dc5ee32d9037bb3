use Rattle.norec_engine.proofs.WholeReads.{is_confirmed}
use Rattle.norec_engine.proofs.engine.Engine.confirm_number.Goals as goal

pub returns : goal.returns
returns c =
    let s = c.self.inside in
    is_confirmed s.state s.pending s.irrevocable c.args.self.now c.self.view_is c.self.invariant c.args.word c.requires.loads c.args.number c.loaded-turn.result c.loaded-turn.new.state c.loaded-turn.ensures.turn c.loaded-turn.ensures.goes c.args.clock c.confirmed_new.new.state c.confirmed_new.ensures
