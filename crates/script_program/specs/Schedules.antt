-- The items of a script, each with its line.
use Rattle.std.specs.Prelude.{ℕ, nat_lt, List, [], ◌∷◌, ◌++◌, length, replicate, Option, Some, None, if◌then◌else◌}
use Rattle.script_program.specs.declared.schedule.Item.{Item}
use Rattle.script_program.specs.Listing.{thread_of}

pub record Schedule : Type 0 where
  pub items : List Item
  pub lines : List ℕ

-- the items of one more line
abbrev pub planned : Schedule → ℕ → List Item → Schedule
planned p line items = record { items = p.items ++ items; lines = p.lines ++ replicate (length items) line }

-- the line of the first item whose thread is not below the number
abbrev pub stray_of : ℕ → List Item → List ℕ → Option ℕ
stray_of n [] lines = None
stray_of n (i ∷ items) [] = None
stray_of n (i ∷ items) (line ∷ lines) = if nat_lt (thread_of i) n then stray_of n items lines else Some line
