use Rattle.world_laws.proofs.histories.disturbed.Goals as goal
use Rattle.world_laws.proofs.LegalHistories.DisturbedWorlds.{disturbed_world}

pub returns : goal.returns
returns g c version w opaque = disturbed_world _ w opaque
