use Rattle.history_reader.{proofs.RoundTrips.Texts.text_read_again, proofs.Exactness.Texts.read_exact}
use Rattle.history_reader.proofs.whole.read.Goals as goal

pub returns-in-Ok-clause-tellable : goal.returns-in-Ok-clause-tellable
returns-in-Ok-clause-tellable c = (read_exact c.args.text.now c.in-Ok.history c.in-Ok.ensures.read).1

pub returns-in-Ok-clause-again : goal.returns-in-Ok-clause-again
returns-in-Ok-clause-again c = text_read_again c.args.text.now

pub returns-in-Err-clause-again : goal.returns-in-Err-clause-again
returns-in-Err-clause-again c = text_read_again c.args.text.now
