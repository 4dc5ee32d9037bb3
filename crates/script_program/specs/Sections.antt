-- The sections of a script: those that have ended, and the one that is read.
use Rattle.std.specs.Prelude.{ℕ, ◌+◌, ◌-◌, ◌*◌, min, nat_lt, List, [], ◌∷◌, ◌++◌, length, take, drop, if◌then◌else◌}
use Rattle.std.specs.List.{repeat, sum_by}
use Rattle.script_program.specs.declared.instruction.Instruction.{Instruction}
use Rattle.script_program.specs.Listing.{Part}

-- count and code are those of the section that is read; count is 0 before the first; left_out is how many instructions
-- were counted that leave no code
pub record Sections : Type 0 where
  pub ended : List Part
  pub count : ℕ
  pub code : List Instruction
  pub left_out : ℕ

-- all of them
abbrev pub parts_of : Sections → List Part
parts_of t = t.ended ++ record { count = t.count; code = t.code } ∷ []

-- how many threads there are
unfoldable pub thread_total : Sections → ℕ
thread_total t = sum_by (λ p. p.count) t.ended + t.count

-- how many instructions their code has, each section counted once
abbrev pub code_total : Sections → ℕ
code_total t = sum_by (λ p. length p.code) t.ended + length t.code

-- how many instructions are counted: those, and those that leave no code
unfoldable pub instruction_total : Sections → ℕ
instruction_total t = code_total t + t.left_out

-- the section of so many threads begins
abbrev pub begun : Sections → ℕ → Sections
begun t n = if nat_lt 0 t.count then record { ended = parts_of t; count = n; code = []; left_out = t.left_out } else record t { count = n }

-- the code from a place on stands so many times in place of once
unfoldable pub expanded : Sections → ℕ → ℕ → Sections
expanded t start times = record t { code = take start t.code ++ repeat times (drop start t.code) }

-- what was left out from a number on counts so many times in place of once
unfoldable pub counted_again : Sections → ℕ → ℕ → Sections
counted_again t start times = record t { left_out = min start t.left_out + times * (t.left_out - start) }
