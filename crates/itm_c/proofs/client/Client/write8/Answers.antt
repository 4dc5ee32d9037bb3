use Rattle.std.proofs.Common.{refl, Some}
use Rattle.itm_c.proofs.Common.{Done, Reply, W, Write, number}
use Rattle.itm_c.proofs.Comings.{comes_of}
use Rattle.itm_c.proofs.client.Client.write8.Goals as goal

pub returns-in-Ok-clause-told : goal.returns-in-Ok-clause-told
returns-in-Ok-clause-told c = record {
  answer = Some (Reply Done);
  code_is = refl;
  comes = comes_of c.args.self.now c.deref.result.now (Write W c.args.at (number c.args.value)) (Some (Reply Done)) c.write_u64.new.self c.deref.ensures c.in-Ok.ensures;
}
