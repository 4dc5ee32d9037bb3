use Rattle.std.proofs.Common.{◌≤◌, length, take, ap, sym, ◌∙◌, arith}
use Rattle.script_vm.proofs.Common.{bytes_at, datum, low}
use Rattle.itm_types.{proofs.SameDatum.same_datum, specs.Access.size_of}
use Rattle.script_vm.proofs.LowBytes.{low_is}
use Rattle.script_vm.proofs.registers.Registers.datum.Goals as goal

pub returns-in-U8 : goal.returns-in-U8
unfolding datum
returns-in-U8 c =
    let few : 8 ≤ length c.bytes-bytes.result.now = omega (arith, c.bytes-bytes.ensures.count) in
    same_datum _ _ (c.new.ensures.width ∙ sym c.in-U8.is)
    (c.new.ensures.bytes ∙ (c.split_at.ensures.front ∙ (low_is 8 c.bytes-bytes.result.now few
    ∙ (ap (low 8) c.bytes-bytes.ensures.value ∙ (λ i. low (size_of (sym c.in-U8.is i)) (bytes_at c.args.self.now c.args.register))))))

pub returns-in_default : goal.returns-in_default
unfolding datum
returns-in_default c =
    let n = c.from.ensures ∙ c.size.ensures.value in
    let few : size_of c.args.width ≤ length c.bytes-bytes.result.now = omega (arith, c.size.ensures.value, c.size.ensures.most, c.bytes-bytes.ensures.count) in
    same_datum _ _ c.new-in_default.ensures.width
    (c.new-in_default.ensures.bytes ∙ (c.split_at-in_default.ensures.front ∙ ((λ i. take (n i) (c.bytes-bytes.result.now)) ∙ (low_is (size_of c.args.width) c.bytes-bytes.result.now few ∙ ap (low (size_of c.args.width)) c.bytes-bytes.ensures.value))))
