use Rattle.itm_runtime.proofs.Common.{answered, due, left_standing}
use Rattle.itm_runtime.proofs.thread.Thread.read.Goals as goal

pub finish_read-requires-clause-due : goal.finish_read-requires-clause-due
finish_read-requires-clause-due g c = due c.self.inside.pass c.self.invariant c.in-Some.ensures.called

pub returns-in-Some : goal.returns-in-Some
returns-in-Some g c = answered c.self.inside.pass c.self.invariant c.in-Some.ensures.called c.finish_read.ensures c.args.self.now c.self.view_is c.requires.own

pub invariant_of-self : goal.invariant_of-self
invariant_of-self g c = left_standing c.self.inside.pass c.self.invariant c.in-Some.ensures.called c.finish_read.ensures c.args.self.now c.self.view_is c.requires.own
