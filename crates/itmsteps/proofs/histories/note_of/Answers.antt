use Rattle.std.proofs.Common.{refl}
use Rattle.itmsteps.proofs.histories.note_of.Goals as goal

pub returns : goal.returns
returns c = record { judgement = c.judgement_of.ensures; flawed = c.place_of.ensures; call = c.call_of.ensures; answer = refl }
