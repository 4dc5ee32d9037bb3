use Rattle.script_laws.proofs.IdleThreads.{come_back_idle, none_stay_held}
use Rattle.script_laws.proofs.idle.Goals as goal

pub returns : goal.returns
returns g = record { back = come_back_idle; none_held = none_stay_held }
