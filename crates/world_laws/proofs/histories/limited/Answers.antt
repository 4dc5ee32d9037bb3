use Rattle.world_laws.proofs.histories.limited.Goals as goal
use Rattle.world_laws.proofs.LegalHistories.LimitedWorlds.{limited_world}

pub returns : goal.returns
returns g c widths version w opaque limits = limited_world g.P.Player widths version w opaque limits
