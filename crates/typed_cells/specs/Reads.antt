-- What a cell's read gives.
use Rattle.std.specs.Prelude.{ℕ, Result, Ok, Err}
use Rattle.itm_runtime.specs.declared.stop.Stop.{Stop}

-- the value that a number which was read stands for
abbrev pub read_as : {T : Type 0} → (ℕ → T) → Result ℕ Stop → Result T Stop
read_as value (Ok number) = Ok (value number)
read_as value (Err stop) = Err stop
