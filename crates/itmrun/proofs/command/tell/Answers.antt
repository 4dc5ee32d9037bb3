use Rattle.std.proofs.Common.{sym, subst}
use Rattle.text_commands.specs.Answers.{Says}
use Rattle.itmrun.{specs.Doing.fault_line, specs.Doing.fault_status, specs.declared.command.CommandFault.CommandFault}
use Rattle.itmrun.proofs.command.tell.Goals as goal

pub returns-in-Usage : goal.returns-in-Usage
unfolding fault_line
returns-in-Usage g c =
    let contents = g.E.Write.contents in
    subst (λ (f : CommandFault). Says (fault_line f) (fault_status f) c.tell_usage.result (contents c.args.errors.now) (contents c.tell_usage.new.errors)) (sym c.in-Usage.is) c.tell_usage.ensures

pub returns-in-Memory : goal.returns-in-Memory
unfolding fault_line
returns-in-Memory g c =
    let contents = g.E.Write.contents in
    subst (λ (f : CommandFault). Says (fault_line f) (fault_status f) c.tell_no_text.result (contents c.args.errors.now) (contents c.tell_no_text.new.errors)) (sym c.in-Memory.is) c.tell_no_text.ensures
