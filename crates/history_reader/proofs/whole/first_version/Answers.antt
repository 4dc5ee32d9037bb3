use Rattle.history_reader.proofs.EarlyVersions.{first_read}
use Rattle.history_reader.proofs.whole.first_version.Goals as goal

pub returns : goal.returns
returns c rest = first_read rest
