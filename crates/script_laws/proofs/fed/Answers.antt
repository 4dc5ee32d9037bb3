use Rattle.script_laws.proofs.FedScripts.{are_fed, tell_room}
use Rattle.script_laws.proofs.fed.Goals as goal

pub returns : goal.returns
returns g = record { tells = tell_room; fed = are_fed }
