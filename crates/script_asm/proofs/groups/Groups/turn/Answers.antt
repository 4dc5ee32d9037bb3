use Rattle.std.proofs.Common.{◌-◌, ap, ◌∙◌, arith, sym}
use Rattle.script_asm.proofs.Common.{length-set, never_count, second_part}
use Rattle.script_asm.{proofs.NeverGroups.same_never, proofs.TurnedGroups.turned}
use Rattle.script_asm.proofs.groups.Groups.turn.Goals as goal

pub invariant_of-self : goal.invariant_of-self
invariant_of-self c =
    let same = turned c.self.inside.beginnings.items c.len-count.result c.index_mut.result.now (omega arith) c.if-count-gt0.true c.index_mut.ensures.value in (
      rw (length-set c.self.inside.beginnings.items (c.len-count.result - 1) _) c.self.invariant.0,
      c.self.invariant.1 ∙ ap never_count c.self.view_is ∙ sym (same_never c.args.self.now c.requires) ∙ ap (λ ls. never_count (second_part ls)) (sym c.self.view_is) ∙ ap never_count (sym same),
    )

pub returns-then-count-gt0 : goal.returns-then-count-gt0
returns-then-count-gt0 c =
    turned c.self.inside.beginnings.items c.len-count.result c.index_mut.result.now (omega arith) c.if-count-gt0.true c.index_mut.ensures.value ∙ ap second_part c.self.view_is
