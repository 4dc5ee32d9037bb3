use Rattle.tx_runs.proofs.OpenRooms.{on_err}
use Rattle.tx_runs.proofs.open_attempt.OpenAttempt.prepare.Goals as goal

pub returns-in_err-prepare_places-clause-short : goal.returns-in_err-prepare_places-clause-short
returns-in_err-prepare_places-clause-short c = on_err c.from_residual.result (c.in_err-prepare_places.ensures.short c.args.arena)
