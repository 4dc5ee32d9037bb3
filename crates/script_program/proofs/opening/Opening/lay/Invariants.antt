use Rattle.std.proofs.Common.{◌≡◌, drop, length}
use Rattle.std.specs.Prelude.{fold}
use Rattle.script_program.specs.Listing.{laid, bytes_of}
use Rattle.script_program.proofs.opening.Opening.lay.Given as goal

abbrev pub invariant-loop-init : goal.invariant-loop-init
invariant-loop-init l = record {
  ahead : fold laid l.memory (drop l.init-index l.init-items) ≡ bytes_of (record { size = length l.memory; inits = l.init-items });
}
