use Rattle.std.proofs.Common.{[], None}
use Rattle.itmsteps.proofs.Refused.{no_text}
use Rattle.itmsteps.proofs.command.do_file.Goals as goal

-- a file that is not opened is a text of which no byte is read
pub returns-in-Err : goal.returns-in-Err
returns-in-Err g c = ([], (None, None, no_text c.args.choice [] c.tell_no_text.result _ _ c.args.choice.history c.tell_no_text.ensures))
