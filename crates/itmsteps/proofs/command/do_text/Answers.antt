use Rattle.std.proofs.Common.{None}
use Rattle.itmsteps.{proofs.Refused.no_memory, proofs.Texts.some_text}
use Rattle.itmsteps.proofs.command.do_text.Goals as goal

pub returns-in_default : goal.returns-in_default
returns-in_default g c =
    let text = some_text (g.R.Read.remaining c.args.reader.now) in
    (text.0, text.1, (None, None, no_memory c.args.choice text.0 c.tell_no_text.result _ _ c.args.choice.history c.tell_no_text.ensures))
