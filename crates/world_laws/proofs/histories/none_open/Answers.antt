use Rattle.world_laws.proofs.LegalHistories.StarvedActors.{fed_leave_none_open}
use Rattle.world_laws.proofs.histories.none_open.Goals as goal

pub returns : goal.returns
returns g c = fed_leave_none_open g.P.Player
