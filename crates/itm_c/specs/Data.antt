-- What is written and copied.
use Rattle.std.specs.Prelude.{ℕ, Bool, [], ◌∷◌, refl}
use Rattle.std.specs.Int.{w16, w32, to_le_bytes}
use Rattle.itm_types.specs.declared.access.Width.TheVariants.{U1, U2, U4}
use Rattle.itm_types.specs.declared.call.Copying.{Copying}
use Rattle.itm_types.specs.declared.copy.CopyPair.TheVariants.{Within}
use Rattle.itm_types.specs.declared.copy.SharedSide.TheVariants.{T}
use Rattle.itm_types.specs.declared.datum.Datum.{Datum}

-- a number as what is written in 4 bytes, in 2, and in one
abbrev pub number_of_4 : ℕ → Datum
number_of_4 n = record { width = U4; bytes = record { items = to_le_bytes w32 n }; sized = refl }

abbrev pub number_of_2 : ℕ → Datum
number_of_2 n = record { width = U2; bytes = record { items = to_le_bytes w16 n }; sized = refl }

abbrev pub number_of_1 : ℕ → Datum
number_of_1 n = record { width = U1; bytes = record { items = n ∷ [] }; sized = refl }

-- a copy from shared memory to shared memory
abbrev pub within : Bool → ℕ → ℕ → ℕ → Copying
within moves to from size = record { moves = moves; pair = Within T T; to = to; from = from; size = size }
