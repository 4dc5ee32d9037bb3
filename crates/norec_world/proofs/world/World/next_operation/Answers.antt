use Rattle.norec_world.proofs.{◌≡◌, Some, slice_get, ap, ◌∙◌, next_cell, next_here, read_there, world_of}
use Rattle.world_rules.specs.World.{operation_at}
use Rattle.norec_world.proofs.world.World.next_operation.Goals.{In_ok-step}
use Rattle.norec_world.proofs.world.World.next_operation.Goals as goal

-- who waits is there
here : (g : _) (c : In_ok-step g) → slice_get c.self.inside.actors.items c.args.actor ≡ Some c.in_ok-get.field-0.now
here g c =
    read_there c.deref.result.now c.self.inside.actors.items c.args.actor c.in_ok-get.field-0.now c.deref.ensures.value c.in_ok-get.ensures.lookup.3.0 (c.in_ok-get.ensures.lookup.3.1 c.in_ok-get.field-0.now)

pub found-found-requires : goal.found-found-requires
found-found-requires g c =
    next_cell (world_of c.self.inside) c.args.actor c.in_ok-get.field-0.now c.in_ok-step.step (here g c) c.in_ok-step.ensures g.P.Player c.self.invariant.actors

pub returns : goal.returns
returns g c =
    next_here (world_of c.self.inside) c.args.actor c.in_ok-get.field-0.now c.in_ok-step.step (here g (goal.at.returns g c).In_ok-step) c.in_ok-step.ensures c.found-found.result c.found-found.ensures
    ∙ ap (λ w. operation_at w c.args.actor) c.self.view_is
