use Rattle.itmsteps.proofs.Written.{writes_as}
use Rattle.itmsteps.proofs.showing.write_picture.Goals as goal

pub returns-clause-drawn : goal.returns-clause-drawn
returns-clause-drawn g c = writes_as _ _ _ c.put_drawing.result c.map_err.result c.map_err.ensures.variant c.put_drawing.ensures
