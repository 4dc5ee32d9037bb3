use Rattle.std.proofs.Common.{if◌then◌else◌, refl}
use Rattle.norec_engine.proofs.BlockSteps.{outer_begun, outer_fits, outer_left, outer_served, outer_sound, outer_stays, outside}
use Rattle.norec_engine.proofs.engine.Engine.begin_at_once.Goals as goal

pub begin_at_once-end-requires : goal.begin_at_once-end-requires
begin_at_once-end-requires c =
    let s = c.self.inside in
    record {
      sound = outer_sound s.irrevocable s.state s.pending c.args.self.now c.self.view_is c.self.invariant c.requires.idle c.args.props c.requires.outer;
      outside = outside s.irrevocable s.state s.pending c.args.self.now c.self.view_is c.self.invariant c.requires.idle c.args.props c.requires.outer;
      stays = outer_stays s.irrevocable s.state s.pending c.args.self.now c.self.view_is c.self.invariant c.requires.idle c.args.props c.requires.outer;
      served = outer_served s.irrevocable s.state s.pending c.args.self.now c.self.view_is c.self.invariant c.requires.idle c.args.props c.requires.outer;
      fits = outer_fits s.irrevocable s.state s.pending c.args.self.now c.self.view_is c.self.invariant c.requires.idle c.args.props c.requires.outer c.args.clock c.requires.fits;
      even = c.requires.even;
    }

pub invariant_of-self : goal.invariant_of-self
invariant_of-self c =
    let s = c.self.inside in
    outer_left s.irrevocable s.state s.pending c.args.self.now c.self.view_is c.self.invariant c.requires.idle c.args.props c.requires.outer c.begin_at_once-end.new.state (c.begin_at_once-end.ensures.turns 0).sound

pub returns : goal.returns
returns c room =
    let s = c.self.inside in
    outer_begun s.irrevocable s.state s.pending c.args.self.now c.self.view_is c.self.invariant c.requires.idle c.args.props c.requires.outer room c.args.again c.args.clock (if c.args.again then 9 else 5) c.begin_at_once-end.result c.begin_at_once-end.new.state (c.begin_at_once-end.ensures.turns room) c.begin_at_once-end.ensures.end refl
