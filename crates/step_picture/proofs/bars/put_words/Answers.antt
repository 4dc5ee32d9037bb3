use Rattle.std.proofs.Common.{refl, codes}
use Rattle.step_picture.proofs.Common.{put_as}
use Rattle.step_picture.proofs.Texts.{three_parts}
use Rattle.step_picture.proofs.bars.put_words.Goals as goal

pub returns : goal.returns
returns g c = put_as _ _ _ _ _ c.put_three.ensures (three_parts _ _ _ _ (codes "</text></g>\n") c.bar_front-front.ensures refl)
