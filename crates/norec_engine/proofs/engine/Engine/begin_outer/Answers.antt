use Rattle.std.proofs.Common.{subst, sym}
use Rattle.norec_engine.proofs.Common.{Asks, Begin, Data, IsCalled, IsSoundIn, Load, Pending, counted, engine_in, phase_of}
use Rattle.norec_engine.proofs.BlockSteps.{outer_called, outer_served, outer_sound, outer_stays, outer_waits, outside}
use Rattle.norec_engine.proofs.engine.Engine.begin_outer.Goals as goal

pub begin_outer-requires : goal.begin_outer-requires
begin_outer-requires c =
    let s = c.self.inside in
    record {
      sound = outer_sound s.irrevocable s.state s.pending c.args.self.now c.self.view_is c.self.invariant c.requires.idle c.args.props c.requires.outer;
      outside = outside s.irrevocable s.state s.pending c.args.self.now c.self.view_is c.self.invariant c.requires.idle c.args.props c.requires.outer;
      stays = outer_stays s.irrevocable s.state s.pending c.args.self.now c.self.view_is c.self.invariant c.requires.idle c.args.props c.requires.outer;
      served = outer_served s.irrevocable s.state s.pending c.args.self.now c.self.view_is c.self.invariant c.requires.idle c.args.props c.requires.outer;
    }

pub returns : goal.returns
returns c =
    let s = c.self.inside in
    let w = c.wait-step.ensures in
    let call = Begin c.args.props c.args.room in
    subst (λ (d : Data). IsCalled c.args.self.now call c.args.again (Asks (Load 0)) (engine_in s.irrevocable d (phase_of d c.wait-step.new.pending))) (sym w.state)
    (subst (λ (p : Pending). IsCalled c.args.self.now call c.args.again (Asks (Load 0)) (engine_in s.irrevocable (counted c.begin_outer.new.state) (phase_of (counted c.begin_outer.new.state) p))) (sym w.pending)
    (outer_called s.irrevocable s.state s.pending c.args.self.now c.self.view_is c.self.invariant c.requires.idle c.args.props c.requires.outer c.args.room c.args.again c.begin_outer.new.state c.begin_outer.ensures))

pub invariant_of-self : goal.invariant_of-self
invariant_of-self c =
    let s = c.self.inside in
    let w = c.wait-step.ensures in
    subst (λ (d : Data). IsSoundIn s.irrevocable d (phase_of d c.wait-step.new.pending)) (sym w.state)
    (subst (λ (p : Pending). IsSoundIn s.irrevocable (counted c.begin_outer.new.state) (phase_of (counted c.begin_outer.new.state) p)) (sym w.pending)
    (outer_waits s.irrevocable s.state s.pending c.args.self.now c.self.view_is c.self.invariant c.requires.idle c.args.props c.requires.outer c.begin_outer.new.state c.begin_outer.ensures.sound.sound))
