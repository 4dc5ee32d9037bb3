use Rattle.itm_runtime.proofs.Common.{answered, due, left_standing}
use Rattle.itm_runtime.proofs.thread.Thread.call_told.Goals as goal

pub finish-requires-clause-due : goal.finish-requires-clause-due
finish-requires-clause-due g c = due c.self.inside.pass c.self.invariant c.in_ok-first.ensures

pub returns : goal.returns
returns g c = answered c.self.inside.pass c.self.invariant c.in_ok-first.ensures c.finish.ensures c.args.self.now c.self.view_is c.requires.own

pub invariant_of-self-2 : goal.invariant_of-self-2
invariant_of-self-2 g c = left_standing c.self.inside.pass c.self.invariant c.in_ok-first.ensures c.finish.ensures c.args.self.now c.self.view_is c.requires.own
