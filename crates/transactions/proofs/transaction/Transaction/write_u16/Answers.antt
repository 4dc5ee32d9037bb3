use Rattle.std.proofs.Common.{◌∙◌, subst}
use Rattle.transactions.proofs.Common.{Datum, Tells, W, Write, answer_to_write, number_16, same_datum}
use Rattle.transactions.proofs.transaction.Transaction.write_u16.Goals as goal

pub returns-clause-tells : goal.returns-clause-tells
returns-clause-tells c =
    subst (λ (d : Datum). Tells c.args.self.now.words c.args.self.now.thread (Write W c.args.at d) (answer_to_write c.write.result) c.write.new.self.thread)
    (same_datum c.new-datum.result (number_16 c.args.value) c.new-datum.ensures.width (c.new-datum.ensures.bytes ∙ c.to_le_bytes.ensures)) c.write.ensures.tells
