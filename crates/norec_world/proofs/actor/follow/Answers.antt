use Rattle.norec_world.proofs.{told_here, sym, ◌∙◌}
use Rattle.norec_world.proofs.actor.follow.Goals as goal

pub returns-then-now-from : goal.returns-then-now-from
returns-then-now-from g c = sym (told_here c.args.actor.now (c.requires (sym c.if-now-from.true ∙ c.snapshot-now.ensures)))
