use Rattle.transactions.proofs.Common.{W, Write, answer_to_write}
use Rattle.transactions.{proofs.Kept.kept_by_write, proofs.Within.lent_within}
use Rattle.transactions.proofs.transaction.Transaction.write.Goals as goal

pub returns-clause-within : goal.returns-clause-within
returns-clause-within c =
    lent_within (record { words = c.self.inside.words.value; thread = c.self.inside.thread }) c.args.self.now c.deref.result.now (Write W c.args.at c.args.value.now) tt c.self.view_is (answer_to_write c.write_value.result) c.write_value.new.self c.write_value.ensures c.self.invariant.revocable

pub returns-clause-kept : goal.returns-clause-kept
returns-clause-kept c =
    kept_by_write (record { words = c.self.inside.words.value; thread = c.self.inside.thread }) c.args.self.now c.deref.result.now (Write W c.args.at c.args.value.now) c.self.view_is c.write_value.new.self c.write_value.result c.write_value.ensures
