use Rattle.itm_entries.proofs.AllEntries.{listed}
use Rattle.itm_entries.proofs.entries.all_entries.Goals as goal

pub returns-clause-every : goal.returns-clause-every
returns-clause-every c = listed
