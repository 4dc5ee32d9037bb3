use Rattle.itmsteps.proofs.Drawings.{drawn}
use Rattle.itmsteps.proofs.showing.draw.Goals as goal

pub returns : goal.returns
returns g c =
    drawn c.args.view.now c.args.items.now c.args.world.now c.gather.new.world _ _ _ _ c.new-marks.result.items c.gather.new.marks.items c.write_picture.result c.as_slice.ensures.value c.deref.ensures.value c.new-marks.ensures.items c.in_ok-gather.ensures c.write_picture.ensures.drawn c.write_picture.ensures.failure
