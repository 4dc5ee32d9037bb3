use Rattle.history_checker.proofs.EarlyVerdicts.{verdict_same}
use Rattle.history_checker.proofs.whole.early_versions.Goals as goal

pub returns : goal.returns
returns c h v = verdict_same h v
