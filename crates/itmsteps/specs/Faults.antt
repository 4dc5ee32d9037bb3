-- The line on a text's fault.
use Rattle.std.specs.Prelude.{ℕ, List, ◌++◌, decimal, codes}

unfoldable pub fault_text : ℕ → List ℕ → List ℕ
fault_text line words = codes "itmsteps: line " ++ decimal line ++ codes ": " ++ words ++ codes "\n"
