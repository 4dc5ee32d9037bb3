-- What the lines before the first section say, and that a section begins.
use Rattle.std.specs.Prelude.{ℕ, ◌+◌, nat_lt, nat_le, List, [], ◌∷◌, ◌++◌, length, Option, Some, None, Result, Ok, if◌then◌else◌}
use Rattle.itm_types.specs.declared.limits.TheConstants.{MAX_ACTORS}
use Rattle.script_fields.specs.declared.fault.FaultKind.TheVariants as kinds
use Rattle.script_fields.specs.declared.fault.AsmFault.{AsmFault}
use Rattle.script_program.specs.declared.limits.TheConstants.{MAX_ITEMS}
use Rattle.script_program.specs.declared.schedule.Item.{Item}
use Rattle.script_asm.specs.declared.state.State.{State}
use Rattle.script_program.specs.Listing.{Shared}
use Rattle.script_program.specs.Sections.{thread_total, begun}
use Rattle.script_program.specs.Schedules.{planned}
use Rattle.script_asm.specs.Readings.{fault}

-- bytes are laid into the memory where they lie within it
unfoldable pub laid_in : State → ℕ → ℕ × List ℕ → Option Shared → Result State AsmFault
laid_in s n x None = fault n kinds.Misplaced
laid_in s n x (Some m) =
    if nat_le (x.0 + length x.1) m.size
    then Ok (record s { memory = Some (record m { inits = m.inits ++ record { at = x.0; bytes = x.1 } ∷ [] }) })
    else fault n kinds.Range

-- at most 65,536 items
abbrev pub scheduled : State → ℕ → List Item → Result State AsmFault
scheduled s n items =
    if nat_lt MAX_ITEMS (length s.schedule.items + length items)
    then fault n kinds.TooLong
    else Ok (record s { schedule = planned s.schedule n items })

-- at most 64 threads, and nothing that is open goes from one section into the next
unfoldable pub threaded : State → ℕ → ℕ → Option ℕ → Result State AsmFault
threaded s n count (Some line) = fault line kinds.Unbalanced
threaded s n count None =
    if nat_lt MAX_ACTORS (thread_total s.threads + count)
    then fault n kinds.TooLong
    else Ok (record s { threads = begun s.threads count })
