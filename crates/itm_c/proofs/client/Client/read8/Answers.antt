use Rattle.std.proofs.Common.{◌∙◌, Ok}
use Rattle.itm_c.proofs.Common.{Read, answer_to_read}
use Rattle.itm_types.{specs.declared.access.ReadHint.TheVariants.R, specs.declared.access.Width.TheVariants.U8}
use Rattle.itm_c.{proofs.Comings.comes_of, proofs.Numbers.number_back}
use Rattle.itm_c.proofs.client.Client.read8.Goals as goal

pub returns-in-Ok-clause-told : goal.returns-in-Ok-clause-told
returns-in-Ok-clause-told c = let answer = answer_to_read (Ok c.in-Ok.value) in record {
  answer = answer;
  code_is = c.read_number.ensures.code;
  value_is = c.read_number.ensures.value ∙ number_back c.in-Ok.value c.read_number.ensures.fits;
  comes = comes_of c.args.self.now c.deref.result.now (Read R U8 c.args.at) answer c.read_u64.new.self c.deref.ensures c.in-Ok.ensures;
}
