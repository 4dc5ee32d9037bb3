use Rattle.std.proofs.Common.{false, sym}
use Rattle.norec_engine.proofs.Common.{Write}
use Rattle.norec_engine.proofs.EitherTurns.{called_in, revocable_call}
use Rattle.norec_engine.proofs.engine.Engine.write_fast.Goals as goal

pub take-requires-clause-mode : goal.take-requires-clause-mode
take-requires-clause-mode c = sym c.if-self.false

pub returns : goal.returns
returns c =
    let s = c.self.inside in
    let revocable = c.if-self.false in
    called_in s.state s.pending s.irrevocable c.args.self.now c.self.view_is _ _ _ _ _ _ c.take.ensures c.self.invariant c.requires.idle (Write c.args.hint c.args.at c.args.value.now) false
    (revocable_call s.irrevocable s.state (Write c.args.hint c.args.at c.args.value.now) false _ _ revocable c.in-Ok.ensures)
