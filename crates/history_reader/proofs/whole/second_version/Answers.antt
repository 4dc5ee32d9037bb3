use Rattle.history_reader.proofs.EarlyVersions.{second_read}
use Rattle.history_reader.proofs.whole.second_version.Goals as goal

pub returns : goal.returns
returns c rest = second_read rest
