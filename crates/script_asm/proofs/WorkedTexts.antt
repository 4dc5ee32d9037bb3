-- Texts of worked scripts.
use Rattle.std.proofs.Common.{List, ℕ, [], ◌∷◌, ◌++◌, codes}

-- a line with its end
abbrev pub line : List ℕ → List ℕ
line t = t ++ 10 ∷ []

-- a script of one thread with this code
abbrev pub script : List ℕ → List ℕ
script code = line (codes ".memory 8") ++ line (codes ".thread") ++ code
