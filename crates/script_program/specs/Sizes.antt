-- Sizes of shared memory.
use Rattle.std.specs.Prelude.{◌≡◌, ℕ, ◌%◌, ◌≤◌}
use Rattle.itm_types.specs.declared.limits.TheConstants.{MAX_MEMORY}

-- whole words, from one to 131,072
abbrev pub IsSize : ℕ → Type 0
IsSize n = (8 ≤ n) × (n ≤ MAX_MEMORY) × (n % 8 ≡ 0)
