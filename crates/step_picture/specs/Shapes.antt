-- Which shape stands for an operation.
use Rattle.std.specs.Prelude.{ℕ, ◌==◌, if◌then◌else◌, List, codes, Option, None, Some}
use Rattle.itm_types.specs.declared.step.Step.{Step}
use Rattle.itm_types.specs.declared.step.Step.TheVariants.{Load, Store, Cas}

-- a load of the clock, that is as the thread knew it, or has moved
unfoldable pub look_shape : ℕ → Option ℕ → List ℕ
look_shape found None = codes "look"
look_shape found (Some known) = if known == found then codes "look" else codes "moved"

-- with the value that it finds, where the thread knew this clock
unfoldable pub shape_of : Step → ℕ → Option ℕ → List ℕ
shape_of (Load cell) found known = if cell == 0 then look_shape found known else codes "load"
shape_of (Store cell value) found known = if cell == 0 then codes "free" else codes "store"
shape_of (Cas cell from to) found known = if found == from then codes "take" else codes "miss"
