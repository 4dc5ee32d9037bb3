-- A commit that takes the clock.
use Rattle.std.specs.Prelude.{length}
use Rattle.norec_core.specs.declared.call_parts.Taking.TheVariants.{Commit}
use Rattle.norec_data.specs.declared.data.Data.{Data}

-- the fields as such a commit comes
abbrev pub asking_commit : Data → Data
asking_commit d = record d { spent = 0; entry = length d.log.rows; tries = 0; taking = Commit }
