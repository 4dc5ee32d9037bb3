-- What is told of a world.
use Rattle.world_rules.specs.World.{World, attempts_of, memory_of}
use Rattle.tx_history.specs.declared.history.History.{History}
use Rattle.tx_history.specs.declared.history.Version.{Version}

-- in this version: the memory that it began with, its attempts, its clock, and its memory as it is
abbrev pub told_of : {P : Type 0} → Version → World P → History
told_of version w = record { version = version; memory = w.base; attempts = attempts_of w; clock = w.cells.clock; bytes = memory_of w }
