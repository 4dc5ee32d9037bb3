-- What is so of every history that a text can tell, whatever its version.
use Rattle.std.proofs.Common.{◌≤◌, length, arith}
use Rattle.itm_types.specs.declared.limits.TheConstants.{MAX_MEMORY}
use Rattle.tx_history.specs.declared.history.History.{History}
use Rattle.tx_history.specs.declared.history.Version.{Version}
use Rattle.tx_history.specs.declared.history.Version.TheVariants.{One, Two, Three}
use Rattle.tx_history.specs.Versions.{memory_limit}
use Rattle.history_reader.specs.Tellable.{IsHistory}

-- no version tells of a larger memory
within_told : (version : Version) → memory_limit version ≤ MAX_MEMORY
within_told One = omega arith
within_told Two = omega arith
within_told (Three depth) = omega arith

pub told_memory : {h : History} → IsHistory h → length h.memory ≤ MAX_MEMORY
told_memory {h} told = omega (arith, told.memory.2, within_told h.version)
