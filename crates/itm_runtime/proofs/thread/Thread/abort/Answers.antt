use Rattle.itm_runtime.proofs.Common.{view_of}
use Rattle.call_rules.proofs.Calls.Rollbacks.{stands_undone}
use Rattle.itm_runtime.proofs.thread.Thread.abort.Goals as goal

pub invariant_of-self : goal.invariant_of-self
invariant_of-self c = stands_undone (view_of c.self.inside.pass) c.self.inside.engine c.abort.new.self c.self.invariant c.abort.ensures.after c.abort.ensures.unregistered

pub returns-clause-stands : goal.returns-clause-stands
returns-clause-stands c = stands_undone (view_of c.self.inside.pass) c.self.inside.engine c.abort.new.self c.self.invariant c.abort.ensures.after c.abort.ensures.unregistered
