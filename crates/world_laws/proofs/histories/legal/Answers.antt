use Rattle.world_laws.proofs.histories.legal.Goals as goal
use Rattle.world_laws.proofs.LegalHistories.LegalWorlds.{legal_world}

pub returns : goal.returns
returns g c version w allows commits opaque tied = legal_world g.P.Player version w allows commits opaque tied
