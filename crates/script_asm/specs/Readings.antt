-- What reading a line gives: a value, or the fault that it has.
use Rattle.std.specs.Prelude.{ℕ, Result, Ok, Err}
use Rattle.script_fields.specs.declared.fault.FaultKind.{FaultKind}
use Rattle.script_fields.specs.declared.fault.AsmFault.{AsmFault}

abbrev pub fault : {A : Type 0} → ℕ → FaultKind → Result A AsmFault
fault n k = Err (record { line = n; kind = k })

infixl 10 ◌>>=◌
abbrev pub ◌>>=◌ : {A B : Type 0} → Result A AsmFault → (A → Result B AsmFault) → Result B AsmFault
(Ok x) >>= f = f x
(Err k) >>= f = Err k

-- what the operands of line n say
abbrev pub at_line : {A : Type 0} → ℕ → Result A FaultKind → Result A AsmFault
at_line n (Ok x) = Ok x
at_line n (Err k) = fault n k
