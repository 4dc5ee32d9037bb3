use Rattle.std.proofs.Common.{◌∙◌, ℕ, List, Some, subst, sym}
use Rattle.transactions.proofs.Common.{R, Read, Reply, Tells, U2, bytes_reply}
use Rattle.transactions.proofs.transaction.Transaction.read_u16.Goals as goal

pub returns-clause-tells : goal.returns-clause-tells
returns-clause-tells c =
    subst (λ (xs : List ℕ). Tells c.args.self.now.words c.args.self.now.thread (Read R U2 c.args.at) (Some (Reply (bytes_reply xs))) c.read.new.self.thread)
    (sym (c.half_of.ensures ∙ c.as_slice.ensures.value)) c.in_ok-value.ensures.tells
