-- The pairs that threads put into a map, by their numbers.
use Rattle.std.specs.Prelude.{◌≡◌, ◌≢◌, ℕ, ◌+◌, ◌*◌, ◌<◌, List}
use Rattle.tx_map.specs.Slots.{Holds}
use Rattle.tx_map.specs.Tables.{HasMap, slots_in}

-- the pair of this number is there
abbrev pub HasPair : ℕ → ℕ → ℕ → List ℕ → Type 0
HasPair first count n bytes = Holds count (slots_in bytes first) (8 * n + 1) (n + 1_000)

-- the key has this value in the pair of some number below `keys`
abbrev pub IsPair : ℕ → ℕ → ℕ → Type 0
IsPair keys k v = (n : ℕ) × (n < keys) × (k ≡ 8 * n + 1) × (v ≡ n + 1_000)

-- a map of such pairs alone
pub record HasOnlyPairs (first count keys : ℕ) (bytes : List ℕ) : Type 0 where
  pub map : HasMap first count bytes
  pub only : (k v : ℕ) → k ≢ 0 → Holds count (slots_in bytes first) k v → IsPair keys k v

-- and each of them is there
pub record HasAllPairs (first count keys : ℕ) (bytes : List ℕ) : Type 0 where
  pub pairs : HasOnlyPairs first count keys bytes
  pub each : (n : ℕ) → n < keys → HasPair first count n bytes
