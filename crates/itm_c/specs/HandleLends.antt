-- How a handle follows what is lent out of it.
use base.Fml.{Fml}
use denote.Ref.{MutBor}
use denote.Follow.{follows}
use Rattle.std.specs.Prelude.{Some}
use Rattle.itm_c.specs.contracts.kept.Kept as Kept
use Rattle.itm_c.specs.contracts.handle.Handle as Handle

-- the handle with this in the place of what it holds
abbrev pub with_kept : Handle.the_row.Denot → Kept.the_row.Denot → Handle.the_row.Denot
with_kept h kept = record h { kept = Some kept }

abbrev pub handle_lends : MutBor Handle.the_row.Denot → MutBor Kept.the_row.Denot → Fml
handle_lends b r = follows Handle.the_row Kept.the_row b.ghost_name r.ghost_name (with_kept b.now)
