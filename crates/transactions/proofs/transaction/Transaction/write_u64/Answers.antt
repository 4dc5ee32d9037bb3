use Rattle.transactions.proofs.Common.{W, Write, answer_to_write, number}
use Rattle.transactions.{proofs.Kept.kept_by_write, proofs.Within.lent_within}
use Rattle.transactions.proofs.transaction.Transaction.write_u64.Goals as goal

pub returns-clause-within : goal.returns-clause-within
returns-clause-within c =
    lent_within (record { words = c.self.inside.words.value; thread = c.self.inside.thread }) c.args.self.now c.deref.result.now (Write W c.args.at (number c.args.value)) tt c.self.view_is (answer_to_write c.write_u64.result) c.write_u64.new.self c.write_u64.ensures c.self.invariant.revocable

pub returns-clause-kept : goal.returns-clause-kept
returns-clause-kept c =
    kept_by_write (record { words = c.self.inside.words.value; thread = c.self.inside.thread }) c.args.self.now c.deref.result.now (Write W c.args.at (number c.args.value)) c.self.view_is c.write_u64.new.self c.write_u64.result c.write_u64.ensures
