use Rattle.step_picture.proofs.Common.{put_as}
use Rattle.step_picture.proofs.SameBars.{bar_as}
use Rattle.step_picture.proofs.bars.put_ended.Goals as goal

pub returns : goal.returns
returns g c = put_as _ _ _ _ _ c.put_words.ensures (bar_as _ _ _ _ _ _ _ _ c.start_of-start.ensures c.look_of-look.ensures c.end_words-words.ensures)
