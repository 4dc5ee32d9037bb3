-- Programs within the limits of a run.
use Rattle.std.specs.Prelude.{◌≡◌, suc, ◌≤◌, length}
use Rattle.itm_types.specs.declared.limits.TheConstants.{MAX_ARENA, MAX_RETRIES}
use Rattle.script_program.specs.Listing.{Listing, opening_of, threads_of}
use Rattle.tx_history.specs.Bounds.{IsMemorySize}
use Rattle.tx_history.specs.Versions.{MayRestart, depth_of, thread_limit}
use Rattle.report_rules.specs.Versions.{version_of}

-- the program's sizes and counts are those that a run may have, and that its version tells of
pub record IsLimitedListing (p : Listing) : Type 0 where
  pub memory : IsMemorySize (version_of p) (length (opening_of p))
  pub arena : p.arena ≤ MAX_ARENA
  pub retries : p.limits.retries ≤ MAX_RETRIES
  pub threads : length (threads_of p) ≤ suc (thread_limit (version_of p))
  pub depth : depth_of (version_of p) ≡ p.limits.depth  -- as many blocks may be open at once as its version says
  pub restarts : MayRestart (version_of p) p.limits.restarts  -- inner blocks may run again only where it tells of them
