-- What a worker leaves, with its thread as contracts see it.
use Rattle.call_rules.specs.Standing.{Standing}
use Rattle.worker_rules.specs.declared.worked.Worked.{Worked as With}

abbrev pub Worked : Type 0
Worked = With Standing
