use Rattle.transactions.proofs.Common.{R, Read, U8, answer_to_read}
use Rattle.transactions.{proofs.Kept.kept_by_read, proofs.Within.lent_within}
use Rattle.transactions.proofs.transaction.Transaction.read_u64.Goals as goal

pub returns-clause-within : goal.returns-clause-within
returns-clause-within c =
    lent_within (record { words = c.self.inside.words.value; thread = c.self.inside.thread }) c.args.self.now c.deref.result.now (Read R U8 c.args.at) tt c.self.view_is (answer_to_read c.read_u64.result) c.read_u64.new.self c.read_u64.ensures c.self.invariant.revocable

pub returns-clause-kept : goal.returns-clause-kept
returns-clause-kept c =
    kept_by_read (record { words = c.self.inside.words.value; thread = c.self.inside.thread }) c.args.self.now c.deref.result.now (Read R U8 c.args.at) c.self.view_is c.read_u64.new.self c.read_u64.result c.read_u64.ensures
