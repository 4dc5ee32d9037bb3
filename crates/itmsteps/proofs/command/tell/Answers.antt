use Rattle.std.proofs.Common.{sym, subst}
use Rattle.itmsteps.proofs.Common.{Says, fault_line, fault_status}
use Rattle.itmsteps.specs.declared.command.CommandFault.{CommandFault}
use Rattle.itmsteps.proofs.command.tell.Goals as goal

pub returns-in-Usage : goal.returns-in-Usage
unfolding fault_line
returns-in-Usage g c =
    let contents = g.E.Write.contents in
    subst (λ (f : CommandFault). Says (fault_line f) (fault_status f) c.tell_usage.result (contents c.args.errors.now) (contents c.tell_usage.new.errors)) (sym c.in-Usage.is) c.tell_usage.ensures

pub returns-in-Memory : goal.returns-in-Memory
unfolding fault_line
returns-in-Memory g c =
    let contents = g.E.Write.contents in
    subst (λ (f : CommandFault). Says (fault_line f) (fault_status f) c.tell_no_text.result (contents c.args.errors.now) (contents c.tell_no_text.new.errors)) (sym c.in-Memory.is) c.tell_no_text.ensures
