-- Puts into a map, and looks at it.
use Rattle.std.specs.Prelude.{◌≡◌, ℕ, Bool, true, false, List, Option}
use Rattle.tx_map.specs.declared.table.Put.{Put}
use Rattle.tx_map.specs.declared.table.Put.TheVariants.{Added, Again, Full}
use Rattle.tx_map.specs.Slots.{HasNo, Holds, IsGot, IsPut}
use Rattle.tx_map.specs.Tables.{HasMap, SameBeside, slots_in}

-- such a put gives the key its value
abbrev pub is_put : Put → Bool
is_put Added = true
is_put Again = true
is_put Full = false

-- how many keys are new by it
abbrev pub added_of : Put → ℕ
added_of Added = 1
added_of Again = 0
added_of Full = 0

-- what is told of a put: the key is new, or it had a value, or each slot has another key and nothing is changed
abbrev pub IsTold : Put → ℕ → ℕ → ℕ → ℕ → List ℕ → List ℕ → Type 0
IsTold Added first count key value old new = IsPut count (slots_in old first) (slots_in new first) key value × HasNo count (slots_in old first) key
IsTold Again first count key value old new = IsPut count (slots_in old first) (slots_in new first) key value × (v : ℕ) × Holds count (slots_in old first) key v
IsTold Full first count key value old new = (new ≡ old) × HasNo count (slots_in old first) key × HasNo count (slots_in old first) 0

pub record IsPutIn (first count key value : ℕ) (put : Put) (old new : List ℕ) : Type 0 where
  pub map : HasMap first count new
  pub told : IsTold put first count key value old new
  pub beside : SameBeside first count old new

-- a put into a map
abbrev pub HasPut : ℕ → ℕ → ℕ → ℕ → Put → List ℕ → List ℕ → Type 0
HasPut first count key value put old new = HasMap first count old → IsPutIn first count key value put old new

-- a look at a map
pub record HasGot (first count key : ℕ) (got : Option ℕ) (old new : List ℕ) : Type 0 where
  pub same : new ≡ old
  pub told : HasMap first count old → IsGot count (slots_in old first) key got
