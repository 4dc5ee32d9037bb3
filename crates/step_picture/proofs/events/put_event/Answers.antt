use Rattle.std.proofs.Common.{ℕ, List, Option, ap, ◌∙◌}
use Rattle.step_picture.proofs.Common.{event_text, put_as}
use Rattle.step_table.specs.Table.{operation_text}
use Rattle.step_picture.specs.Shapes.{shape_of}
use Rattle.step_picture.proofs.events.put_event.Goals as goal

pub returns : goal.returns
returns g c =
    let o = c.args.mark.now.event.operation in
    let shape = c.shape_of-shape.ensures ∙ ap (λ (k : Option ℕ). shape_of o.step o.found k) c.known_in-known.ensures in
    put_as _ _ _ _ _ c.put_operation.ensures (ap (λ (s : List ℕ). event_text c.args.at c.args.lane s (operation_text o)) shape)
