-- Numbers as depths.
use Rattle.std.specs.Prelude.{ℕ, ◌<◌, ◌≤◌, min, max}
use Rattle.std.proofs.Common.{arith}
use Rattle.itm_types.specs.declared.limits.Depth.{Depth}
use Rattle.itm_types.specs.declared.limits.TheConstants.{MAX_DEPTH}

-- the number from 1 to 64 that is nearest
abbrev pub near : ℕ → ℕ
near n = min (max 1 n) MAX_DEPTH

pub some_near : (n : ℕ) → 0 < near n
some_near n = omega arith

pub few_near : (n : ℕ) → near n ≤ MAX_DEPTH
few_near n = omega arith

abbrev pub depth_from : ℕ → Depth
depth_from n = record { blocks = near n; some = some_near n; few = few_near n }
