use Rattle.world_laws.proofs.histories.outrun.Goals as goal

pub returns : goal.returns
returns g c version w opaque = opaque.outrun
