use Rattle.step_picture.proofs.Common.{put_as}
use Rattle.step_picture.proofs.Texts.{both_parts}
use Rattle.step_picture.proofs.events.put_back.Goals as goal

pub returns : goal.returns
returns g c = put_as _ _ _ _ _ c.put_three.ensures (both_parts _ _ _ _ c.restart-back.ensures c.clock-foot.ensures)
