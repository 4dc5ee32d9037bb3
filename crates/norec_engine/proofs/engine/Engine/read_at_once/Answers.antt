use Rattle.itm_types.specs.declared.access.ReadHint.TheVariants.{R}
use Rattle.norec_engine.proofs.WholeReads.{read_done, read_left, read_new}
use Rattle.norec_engine.proofs.engine.Engine.read_at_once.Goals as goal

pub invariant_of-self : goal.invariant_of-self
invariant_of-self c =
    let s = c.self.inside in
    let r = c.requires.reads in
    let new = read_new s.irrevocable s.state s.pending c.args.self.now c.self.view_is c.self.invariant c.requires.idle r.0 r.1 c.args.word r.2 in
    read_left s.irrevocable s.state s.pending c.args.self.now c.self.view_is c.self.invariant c.requires.idle r.0 r.1 c.args.word r.2 c.read_at_once.new.state (c.read_at_once.ensures R r.0 r.1 new).sound

pub returns : goal.returns
returns c hint width at reads =
    let s = c.self.inside in
    let new = read_new s.irrevocable s.state s.pending c.args.self.now c.self.view_is c.self.invariant c.requires.idle width at c.args.word reads in
    read_done s.irrevocable s.state s.pending c.args.self.now c.self.view_is c.self.invariant c.requires.idle width at c.args.word reads hint c.args.value c.read_at_once.new.state (c.read_at_once.ensures hint width at new)
