use Rattle.std.proofs.Common.{◌≡◌, false, ap, ◌∙◌, subst, Some}
use Rattle.itm_c.proofs.Common.{Answer, Bytes, IsAnswered, Read, Reply, number_of_bytes, start_of}
use Rattle.itm_types.specs.declared.access.ReadHint.TheVariants.{R}
use Rattle.itm_c.proofs.Comings.{comes_of}
use Rattle.itm_c.proofs.client.Client.read.Goals as goal

pub returns-in-Ok-Reply-Bytes-clause-told : goal.returns-in-Ok-Reply-Bytes-clause-told
returns-in-Ok-Reply-Bytes-clause-told c =
    let call = Read R c.args.width c.args.at in let words = c.deref.result.now in let new = c.read.new.self in
    let answer = Reply (Bytes c.in-Ok-Reply-Bytes.bytes) in
    let is : c.in-Ok-Reply-Bytes.field-0 ≡ answer = c.in-Ok-Reply-Bytes.field-0-is ∙ ap Reply c.in-Ok-Reply-Bytes.field-0-0-is in
    record {
      answer = Some answer;
      code_is = c.read_number.ensures.code;
      value_is = c.read_number.ensures.value ∙ c.number_of.ensures ∙ ap number_of_bytes c.as_slice.ensures.value;
      comes = comes_of c.args.self.now words call (Some answer) new c.deref.ensures
          (subst (λ (a : Answer). IsAnswered words (start_of c.args.self.now.thread call false) a new.pass new.engine) is c.in-Ok-Reply-Bytes.ensures);
    }
