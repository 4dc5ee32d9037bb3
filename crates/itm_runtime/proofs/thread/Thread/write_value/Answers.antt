use Rattle.itm_runtime.proofs.Common.{Done, Reply, answered, at_once}
use Rattle.itm_runtime.proofs.thread.Thread.write_value.Goals as goal

pub returns-then-write_next : goal.returns-then-write_next
returns-then-write_next g c =
    let p = c.self.inside.pass in
    let called = c.write_next.ensures.called c.if-write_next.true in
    answered p c.self.invariant called (at_once p c.self.inside.engine (Reply Done) c.self.view_is c.requires.own c.write_next.new.self) c.args.self.now c.self.view_is c.requires.own
