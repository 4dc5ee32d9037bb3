use Rattle.step_picture.proofs.Common.{put_as}
use Rattle.std.specs.Prelude.{codes}
use Rattle.step_picture.proofs.Texts.{three_parts}
use Rattle.step_picture.proofs.events.put_operation.Goals as goal

pub returns : goal.returns
returns g c = put_as _ _ _ _ _ c.put_three.ensures (three_parts _ _ _ _ (codes "</text></g>\n") c.event_front-front.ensures c.operation_pieces-operation.ensures)
