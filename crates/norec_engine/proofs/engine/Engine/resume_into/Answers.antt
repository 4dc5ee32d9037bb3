use Rattle.norec_engine.proofs.Common.{phase_of}
use Rattle.norec_engine.proofs.EitherTurns.{left_sound, resumed_in, sound_step}
use Rattle.norec_engine.proofs.engine.Engine.resume_into.Goals as goal

pub invariant_of-self : goal.invariant_of-self
invariant_of-self c =
    let s = c.self.inside in
    let h = c.hand_in.ensures in
    left_sound s.state s.pending s.irrevocable c.args.self.now c.self.view_is _ _ _ _ _ _ h.taken (sound_step s.irrevocable s.state (phase_of s.state s.pending) c.args.seen _ _ h.turns).0

pub returns : goal.returns
returns c =
    let s = c.self.inside in
    let h = c.hand_in.ensures in
    resumed_in s.state s.pending s.irrevocable c.args.self.now c.self.view_is _ _ _ _ _ _ h.taken c.self.invariant c.args.seen h.turns
