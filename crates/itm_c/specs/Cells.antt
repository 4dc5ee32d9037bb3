-- What cells own where they lie: what a full vector owns that has no block to free.
use Rattle.std.specs.Prelude.{ℕ, List}
use base.Fml.{Fml}
use denote.Builtin.{u64}
use denote.RawPtr.{Ptr}
use Rattle.std_alloc.specs.Vec.Ownership.{lodged}

abbrev pub cells_own : Ptr → ℕ → List ℕ → Fml
cells_own at count items = lodged u64 at count count items
