-- What is open: beginnings whose ends have not come yet, the innermost first.
use Rattle.std.specs.Prelude.{ℕ, ◌+◌, ◌||◌, Bool, true, false, nat_eq, List, [], ◌∷◌, Option, Some, None, if◌then◌else◌}
use Rattle.script_asm.specs.declared.groups.Beginning.{Beginning}
use Rattle.script_asm.specs.declared.groups.Group.{Group}
use Rattle.script_asm.specs.declared.groups.Group.TheVariants as groups

-- what the innermost is
abbrev pub innermost : List Beginning → Option Group
innermost [] = None
innermost (b ∷ more) = Some b.group

-- the line in which it began
abbrev pub innermost_line : List Beginning → Option ℕ
innermost_line [] = None
innermost_line (b ∷ more) = Some b.line

-- those around it
abbrev pub outer : List Beginning → List Beginning
outer [] = []
outer (b ∷ more) = more

-- its second part, which began in the same line
abbrev pub second_part : List Beginning → List Beginning
second_part [] = []
second_part (b ∷ more) = record b { group = groups.Second } ∷ more

-- it is the second part of a group
abbrev pub is_second : Option Group → Bool
is_second (Some groups.Second) = true
is_second g = false

-- it is lines that are to stand 0 times
abbrev pub stands_never : Group → Bool
stands_never (groups.Repeat start times) = nat_eq times 0
stands_never g = false

-- one of those that are open is
abbrev pub within_never : List Beginning → Bool
within_never [] = false
within_never (b ∷ more) = stands_never b.group || within_never more

-- how many of them are
abbrev pub never_count : List Beginning → ℕ
never_count [] = 0
never_count (b ∷ more) = (if stands_never b.group then 1 else 0) + never_count more
