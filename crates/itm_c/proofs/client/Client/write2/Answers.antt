use Rattle.std.proofs.Common.{false, subst}
use Rattle.itm_c.proofs.Common.{Datum, Told, W, Write}
use Rattle.itm_c.proofs.client.Client.write2.Goals as goal

pub returns-clause-told : goal.returns-clause-told
returns-clause-told c = subst (λ (d : Datum). Told c.args.self.now (Write W c.args.at d) false c.write.result c.write.new.self) c.datum_of_2-value.ensures c.write.ensures.told
