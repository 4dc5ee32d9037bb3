use Rattle.std.proofs.Common.{ℕ, ap, ◌∙◌}
use Rattle.itmsteps.proofs.Common.{view_of}
use Rattle.itmsteps.proofs.Tables.{shown}
use Rattle.itmsteps.proofs.showing.show_items.Goals as goal

pub returns : goal.returns
returns g c =
    let view_is = c.view_of-view.ensures ∙ ap (λ (n : ℕ). view_of c.args.choice n) c.threads.ensures.value in
    shown c.args.choice c.args.program.now c.args.world c.show_world.new.world c.args.items.now c.view_of-view.result _ _ c.requires.begins c.requires.items view_is c.show_world.result c.show_world.ensures
