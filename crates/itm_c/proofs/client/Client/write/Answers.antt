use Rattle.std.proofs.Common.{refl, Some}
use Rattle.itm_c.proofs.Common.{Done, Reply, W, Write}
use Rattle.itm_c.proofs.Comings.{comes_of}
use Rattle.itm_c.proofs.client.Client.write.Goals as goal

pub returns-in-Ok-clause-told : goal.returns-in-Ok-clause-told
returns-in-Ok-clause-told c = record {
  answer = Some (Reply Done);
  code_is = refl;
  comes = comes_of c.args.self.now c.deref.result.now (Write W c.args.at c.args.value.now) (Some (Reply Done)) c.write_value.new.self c.deref.ensures c.in-Ok.ensures;
}
