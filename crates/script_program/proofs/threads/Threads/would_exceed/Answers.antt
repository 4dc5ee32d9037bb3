use Rattle.std.proofs.Common.{◌≡◌, ◌+◌, ◌-◌, ◌*◌, ltb, arith, ap, ◌∙◌}
use Rattle.script_program.{specs.Sections.instruction_total, proofs.Repeats.too_many}
use Rattle.script_program.proofs.threads.Threads.would_exceed.Goals as goal

pub returns : goal.returns
returns c =
    let all : c.self.inside.instructions ≡ instruction_total c.args.self.now = c.self.invariant.1 ∙ ap instruction_total c.self.view_is in
    too_many c.self.inside.instructions c.args.group c.args.times c.saturating_mul.result (omega (arith, c.self.invariant.3)) (omega (arith, all, c.requires)) c.saturating_mul.ensures
    ∙ ap (λ n. ltb 65536 ((n - c.args.group) + c.args.times * c.args.group)) all
