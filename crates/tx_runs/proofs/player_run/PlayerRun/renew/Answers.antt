use Rattle.std.proofs.Common.{true}
use Rattle.tx_runs.proofs.player_run.PlayerRun.renew.Goals as goal

pub renew-requires-clause-told : goal.renew-requires-clause-told
renew-requires-clause-told g c = (rw c.in-Some.ensures.value at c.requires.room true 0).told

pub renew-requires-clause-began : goal.renew-requires-clause-began
renew-requires-clause-began g c = (rw c.in-Some.ensures.value at c.requires.room true 0).began

pub renew-requires-clause-backed : goal.renew-requires-clause-backed
renew-requires-clause-backed g c = (rw c.in-Some.ensures.value at c.requires.room true 0).backed
