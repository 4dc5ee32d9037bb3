use Rattle.std.proofs.Common.{◌≡◌, ◌+◌, ◌-◌, ◌*◌, ℕ, min, arith, ap, ◌∙◌}
use Rattle.script_program.specs.Sections.{Sections, thread_total, instruction_total, counted_again}
use Rattle.script_program.proofs.Repeats.{counted_total, turned}
use Rattle.script_program.proofs.threads.Threads.count_again.Goals as goal

-- what is left out beyond the start, and how many there are where it counts so many times
counted : (t u : Sections) (start times group : ℕ) → u ≡ t → group ≡ u.left_out - start
    → (group ≡ t.left_out - start) × (u.left_out ≡ t.left_out) × (instruction_total (counted_again t start times) ≡ (instruction_total t - group) + group * times)
counted t u start times group is g =
    let left_out : u.left_out ≡ t.left_out = ap (λ (x : Sections). x.left_out) is in
    let same : group ≡ t.left_out - start = omega (arith, g, left_out) in
    (same, left_out, omega (arith, counted_total t start times, turned (t.left_out - start) group times same))

pub overflow_mul-again : goal.overflow_mul-again
overflow_mul-again c = omega (arith, counted _ _ c.args.start c.args.times _ c.self.view_is c.saturating_sub-group.ensures, c.requires)

pub overflow_add-self : goal.overflow_add-self
unfolding instruction_total
overflow_add-self c = omega (arith, counted _ _ c.args.start c.args.times _ c.self.view_is c.saturating_sub-group.ensures, c.requires, c.self.invariant.1, c.self.invariant.3)

pub overflow_sub-self-2 : goal.overflow_sub-self-2
unfolding instruction_total
overflow_sub-self-2 c = omega (arith, c.saturating_sub-group.ensures, c.self.invariant.1)

pub overflow_add-self-2 : goal.overflow_add-self-2
unfolding instruction_total
overflow_add-self-2 c = omega (arith, counted _ _ c.args.start c.args.times _ c.self.view_is c.saturating_sub-group.ensures, c.requires, c.self.invariant.3)

pub invariant_of-self : goal.invariant_of-self
unfolding thread_total instruction_total
invariant_of-self c =
    let all : c.self.inside.instructions ≡ instruction_total c.args.self.now = c.self.invariant.1 ∙ ap instruction_total c.self.view_is in (
      c.self.invariant.0,
      omega (arith, c.saturating_sub-group.ensures, c.self.invariant.1),
      c.self.invariant.2,
      omega (arith, counted _ _ c.args.start c.args.times _ c.self.view_is c.saturating_sub-group.ensures, c.requires, all),
    )

pub returns : goal.returns
unfolding counted_again
returns c =
    let t : Sections = c.args.self.now in
    let k = counted _ _ c.args.start c.args.times _ c.self.view_is c.saturating_sub-group.ensures in
    let again : c.self.inside.left_out - c.saturating_sub-group.result + c.saturating_sub-group.result * c.args.times ≡ min c.args.start t.left_out + c.args.times * (t.left_out - c.args.start) =
    omega (arith, k, turned (t.left_out - c.args.start) c.saturating_sub-group.result c.args.times k.0) in
    ap (λ (x : Sections). record x { left_out = c.self.inside.left_out - c.saturating_sub-group.result + c.saturating_sub-group.result * c.args.times }) c.self.view_is
    ∙ ap (λ (n : ℕ). record t { left_out = n }) again
