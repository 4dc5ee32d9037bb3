use Rattle.std.proofs.Common.{ap, ◌∙◌, ℕ, take, replicate}
use Rattle.norec_irrevocable.proofs.Common.{take-replicate}
use Rattle.norec_irrevocable.proofs.fill.repeated.Goals as goal

pub returns : goal.returns
returns c = c.value_of.ensures.items ∙ (ap (λ (n : ℕ). take n (replicate 32 c.args.byte)) c.from.ensures ∙ take-replicate c.args.count 32 c.args.byte c.requires)
