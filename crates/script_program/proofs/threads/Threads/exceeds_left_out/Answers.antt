use Rattle.std.proofs.Common.{◌≡◌, ◌+◌, ◌-◌, ◌*◌, ltb, arith, ap, ◌∙◌, sym}
use Rattle.script_program.{specs.Sections.Sections, specs.Sections.instruction_total, proofs.Repeats.counted_total}
use Rattle.script_program.proofs.threads.Threads.exceeds_left_out.Goals as goal

pub returns : goal.returns
returns c =
    let t : Sections = c.args.self.now in
    let left_out : c.self.inside.left_out ≡ t.left_out = ap (λ (x : Sections). x.left_out) c.self.view_is in
    let group : c.saturating_sub-group.result ≡ t.left_out - c.args.start = omega (arith, c.saturating_sub-group.ensures, left_out) in
    c.would_exceed.ensures ∙ ap (λ n. ltb 65536 ((instruction_total t - n) + c.args.times * n)) group ∙ ap (ltb 65536) (sym (counted_total t c.args.start c.args.times))
