use Rattle.std.proofs.Common.{rules}
use Rattle.transactions.proofs.Kept.{undo_told}
use Rattle.transactions.proofs.transaction.Transaction.on_undo.Goals as goal

pub returns-clause-tells : goal.returns-clause-tells
returns-clause-tells c = undo_told c.args.self.now.words c.args.self.now.thread c.call.new.self c.args.action c.in_ok-answer.answer (search rules) c.in_ok-check.ensures.goes_on
