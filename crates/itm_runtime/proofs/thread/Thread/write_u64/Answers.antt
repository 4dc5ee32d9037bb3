use Rattle.itm_runtime.proofs.Common.{Done, Reply, answered, at_once, left_standing}
use Rattle.itm_runtime.proofs.thread.Thread.write_u64.Goals as goal

pub returns-then-put : goal.returns-then-put
returns-then-put g c =
    let p = c.self.inside.pass in
    answered p c.self.invariant (c.put.ensures.called c.if-put.true) (at_once p c.self.inside.engine (Reply Done) c.self.view_is c.requires.own c.put.new.engine) c.args.self.now c.self.view_is c.requires.own

pub invariant_of-self : goal.invariant_of-self
invariant_of-self g c =
    let p = c.self.inside.pass in
    left_standing p c.self.invariant (c.put.ensures.called c.if-put.true) (at_once p c.self.inside.engine (Reply Done) c.self.view_is c.requires.own c.put.new.engine) c.args.self.now c.self.view_is c.requires.own
