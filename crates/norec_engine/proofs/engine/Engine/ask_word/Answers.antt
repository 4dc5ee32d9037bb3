use Rattle.std.proofs.Common.{◌+◌, false, subst, sym}
use Rattle.norec_engine.proofs.Common.{Asks, CallTurns, Data, IsCalled, Read, Wait, engine_in, phase_of}
use Rattle.itm_types.specs.declared.step.Step.TheVariants as steps
use Rattle.norec_data.specs.declared.pending.Pending.TheVariants as waits
use Rattle.norec_engine.proofs.WholeReads.{read_called, read_sound}
use Rattle.norec_engine.proofs.engine.Engine.ask_word.Goals as goal

pub ask_word-requires-clause-sound : goal.ask_word-requires-clause-sound
ask_word-requires-clause-sound c =
    let s = c.self.inside in
    let r = c.requires.reads in
    read_sound s.irrevocable s.state s.pending c.args.self.now c.self.view_is c.self.invariant c.requires.idle c.args.width c.args.at r.0 r.1

pub returns-clause-called : goal.returns-clause-called
returns-clause-called c word reads =
    let s = c.self.inside in
    let asked = c.ask_word.ensures in
    let came = subst (CallTurns s.state (Read c.args.hint c.args.width c.args.at) false (Wait waits.Load)) asked.state asked.called in
    subst (λ (d : Data). IsCalled c.args.self.now (Read c.args.hint c.args.width c.args.at) false (Asks (steps.Load (word + 1))) (engine_in s.irrevocable (record d { spent = 1 }) (phase_of (record d { spent = 1 }) waits.Load))) (sym asked.state)
    (read_called s.irrevocable s.state s.pending c.args.self.now c.self.view_is c.self.invariant c.requires.idle c.args.width c.args.at word reads c.args.hint came)
