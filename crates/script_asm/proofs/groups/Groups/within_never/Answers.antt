use Rattle.std.proofs.Common.{ap, ◌∙◌, ltb}
use Rattle.script_asm.proofs.Common.{never_count}
use Rattle.script_asm.proofs.NeverGroups.{some_never}
use Rattle.script_asm.proofs.groups.Groups.within_never.Goals as goal

pub returns : goal.returns
returns c = ap (ltb 0) (c.self.invariant.1 ∙ ap never_count c.self.view_is) ∙ some_never c.args.self.now
