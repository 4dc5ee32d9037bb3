use Rattle.itmrun.proofs.FailedOpens.{failed_open}
use Rattle.itmrun.proofs.command.do_file.Goals as goal

pub returns-in-Err : goal.returns-in-Err
returns-in-Err g c = failed_open c.args.task c.tell_no_text.result _ _ c.tell_no_text.ensures
