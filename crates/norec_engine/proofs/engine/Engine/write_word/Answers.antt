use Rattle.norec_engine.proofs.WholeWrites.{done, served_here, sound_here}
use Rattle.norec_engine.proofs.engine.Engine.write_word.Goals as goal

pub write_served-requires : goal.write_served-requires
write_served-requires c =
    let s = c.self.inside in
    record {
      sound = sound_here s.state s.pending s.irrevocable c.args.self.now c.self.view_is c.self.invariant c.requires.idle c.args.at c.args.value.now c.requires.serves;
      served = served_here s.state s.pending s.irrevocable c.args.self.now c.self.view_is c.self.invariant c.requires.idle c.args.at c.args.value.now c.requires.serves;
    }

pub returns-clause-called : goal.returns-clause-called
returns-clause-called c told =
    let s = c.self.inside in
    done s.state s.pending s.irrevocable c.args.self.now c.self.view_is c.self.invariant c.requires.idle c.args.at c.args.value.now c.requires.serves c.args.hint c.write_served.new.state c.in-Ok.ensures
