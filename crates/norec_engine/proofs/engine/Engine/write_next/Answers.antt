use Rattle.norec_engine.proofs.WholeWrites.{done, served_here, sound_here}
use Rattle.norec_engine.proofs.engine.Engine.write_next.Goals as goal

pub write_next-requires : goal.write_next-requires
write_next-requires c =
    let s = c.self.inside in
    record {
      sound = sound_here s.state s.pending s.irrevocable c.args.self.now c.self.view_is c.self.invariant c.requires.idle c.args.at c.args.value.now c.requires.serves;
      served = served_here s.state s.pending s.irrevocable c.args.self.now c.self.view_is c.self.invariant c.requires.idle c.args.at c.args.value.now c.requires.serves;
    }

pub returns-clause-called : goal.returns-clause-called
returns-clause-called c told =
    let s = c.self.inside in
    done s.state s.pending s.irrevocable c.args.self.now c.self.view_is c.self.invariant c.requires.idle c.args.at c.args.value.now c.requires.serves c.args.hint c.write_next.new.state (c.write_next.ensures.written told)
