use Rattle.std.proofs.Common.{ap, ◌∙◌, arith}
use Rattle.script_asm.proofs.Common.{never_count}
use Rattle.script_asm.proofs.NeverGroups.{few_never}
use Rattle.script_asm.proofs.groups.Groups.push.Goals as goal

pub overflow_add-self : goal.overflow_add-self
overflow_add-self c = omega (arith, c.self.invariant.1 ∙ ap never_count c.self.view_is, few_never c.args.self.now, c.requires)
