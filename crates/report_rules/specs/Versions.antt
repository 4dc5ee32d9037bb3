-- Which version of a history's text tells of the runs of a program.
use Rattle.std.specs.Prelude.{◌==◌, ◌&&◌, nat_le, Bool, if◌then◌else◌, length}
use Rattle.itm_types.specs.declared.limits.TheConstants.{USUAL_DEPTH}
use Rattle.script_program.specs.Listing.{Listing, threads_of}
use Rattle.tx_history.specs.declared.history.TheConstants.{EARLY_ACTORS, EARLY_MEMORY}
use Rattle.tx_history.specs.declared.history.Version.{Version}
use Rattle.tx_history.specs.declared.history.Version.TheVariants.{One, Two, Three}
use Rattle.tx_history.specs.Depths.{depth_from}

-- it has the usual depth, and no larger a memory and no more threads than the first two versions tell of
abbrev pub is_early : Listing → Bool
is_early p = (p.limits.depth == USUAL_DEPTH) && nat_le p.memory.size EARLY_MEMORY && nat_le (length (threads_of p)) EARLY_ACTORS

-- then the first version, or the second one where inner blocks may run again; and else the third one, which tells the depth
abbrev pub version_of : Listing → Version
version_of p = if is_early p then (if p.limits.restarts == 0 then One else Two) else Three (depth_from p.limits.depth)
