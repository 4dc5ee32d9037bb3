-- Writes that the fast path may do.
use Rattle.std.specs.Prelude.{◌≡◌, ℕ, false, None}
use Rattle.itm_types.specs.Access.{size_of}
use Rattle.itm_types.specs.declared.datum.Datum.{Datum}
use Rattle.norec_core.specs.Accesses.{access_refusal}
use Rattle.norec_core.specs.Core.{Core, in_transaction}

-- the transaction stays revocable, and the write is not refused
pub record ServesWrite (e : Core) (at : ℕ) (value : Datum) : Type 0 where
  pub revocable : e.irrevocable ≡ false
  pub served : access_refusal (in_transaction e) e.words at (size_of value.width) ≡ None
