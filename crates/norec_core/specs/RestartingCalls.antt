-- Which calls may make the innermost block go back to its begin: who tells of that makes room before them.
use Rattle.std.specs.Prelude.{ℕ, Bool, true, false, ◌&&◌, not, nat_lt, if◌then◌else◌, length, Option, None, Some}
use Rattle.itm_types.specs.declared.call.Call.{Call}
use Rattle.itm_types.specs.declared.call.Call.TheVariants.{Begin, Mode, Read, Copy}
use Rattle.itm_types.specs.declared.copy.CopyPair.{CopyPair}
use Rattle.itm_types.specs.declared.copy.CopyPair.TheVariants.{Out, In, Within}
use Rattle.norec_core.specs.Core.{Core, is_within}

-- a copy reads shared bytes
abbrev pub reads_shared : CopyPair → Bool
reads_shared (Out to) = false
reads_shared (In from) = true
reads_shared (Within from to) = true

-- within a block that is not the outermost one the call may come to a round: it reads shared bytes, or takes the clock
abbrev pub may_validate : Call → Bool
may_validate (Begin props room) = props.goes_irrevocable
may_validate (Mode room) = true
may_validate (Read hint width at) = true
may_validate (Copy c) = reads_shared c.pair
may_validate _ = false

-- the innermost block may go back by it
abbrev pub can_restart : Core → Call → Bool
can_restart e call = nat_lt e.restarted e.restarts && (not e.irrevocable && (is_within e.blocks && may_validate call))

-- so many bytes its arena has, where it may
abbrev pub arena_ahead : Core → Call → Option ℕ
arena_ahead e call = if can_restart e call then Some (length e.arena) else None
