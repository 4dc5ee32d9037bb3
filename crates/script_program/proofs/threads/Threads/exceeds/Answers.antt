use Rattle.std.proofs.Common.{◌≡◌, ◌+◌, ◌-◌, ◌*◌, ltb, length, arith, ap, ◌∙◌, sym}
use Rattle.script_program.{specs.Sections.Sections, specs.Sections.instruction_total, proofs.Repeats.expanded_total}
use Rattle.script_program.proofs.threads.Threads.exceeds.Goals as goal

pub returns : goal.returns
returns c =
    let t : Sections = c.args.self.now in
    let code : length c.self.inside.code.items ≡ length t.code = ap (λ (x : Sections). length x.code) c.self.view_is in
    let group : c.saturating_sub-group.result ≡ length t.code - c.args.start = omega (arith, c.len.ensures, c.saturating_sub-group.ensures, code) in
    c.would_exceed.ensures ∙ ap (λ n. ltb 65536 ((instruction_total t - n) + c.args.times * n)) group ∙ ap (ltb 65536) (sym (expanded_total t c.args.start c.args.times))
