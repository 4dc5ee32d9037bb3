use Rattle.tx_runs.proofs.player_run.PlayerRun.add.Goals as goal

pub add-requires-clause-entry : goal.add-requires-clause-entry
add-requires-clause-entry g c = (c.requires.room c.in-Some.open.now c.in-Some.ensures.value).0
