-- The operands of `.schedule`: items, each `TxK` or `T!`.
use Rattle.std.specs.Prelude.{ℕ, ◌+◌, ◌-◌, ◌==◌, Bool, List, [], ◌∷◌, length, take, drop, min, slice_index, position, Option, Some, None, Result, Ok, Err, if◌then◌else◌}
use Rattle.script_fields.specs.declared.fault.FaultKind.{FaultKind}
use Rattle.script_fields.specs.declared.fault.FaultKind.TheVariants as kinds
use Rattle.script_program.specs.declared.limits.TheConstants.{MAX_EVENTS}
use Rattle.script_program.specs.declared.schedule.Item.{Item}
use Rattle.script_program.specs.declared.schedule.Item.TheVariants.{Take, Out}
use Rattle.script_fields.specs.Operands.{◌>>=◌, both, number, within}

abbrev pub is_times : ℕ → Bool
is_times b = b == 120

-- a thread's number; those from 255 on, which no thread has, are all 255
abbrev pub thread_number : ℕ → ℕ
thread_number n = min n 255

-- how many events
unfoldable pub events : List ℕ → Result ℕ FaultKind
events f = number f >>= within 1 MAX_EVENTS

-- what stands around the first x
abbrev pub take_of : List ℕ → Option ℕ → Result Item FaultKind
take_of f None = Err kinds.Operand
take_of f (Some i) = both (number (take i f)) (events (drop (i + 1) f)) >>= λ x. Ok (Take (thread_number x.0) x.1)

unfoldable pub item_of : List ℕ → Result Item FaultKind
item_of f =
    if slice_index f (length f - 1) == 33
    then (number (take (length f - 1) f) >>= λ t. Ok (Out (thread_number t)))
    else take_of f (position is_times f)

-- each of the fields is an item
abbrev pub items_of : List (List ℕ) → Result (List Item) FaultKind
items_of [] = Ok []
items_of (f ∷ fs) = both (item_of f) (items_of fs) >>= λ x. Ok (x.0 ∷ x.1)

-- one item or more
unfoldable pub schedule_of : List (List ℕ) → Result (List Item) FaultKind
schedule_of [] = Err kinds.Operand
schedule_of (f ∷ fs) = items_of (f ∷ fs)

-- those of the fields that are items
abbrev pub with_item : Result Item FaultKind → List Item → List Item
with_item (Ok i) items = i ∷ items
with_item (Err k) items = items

abbrev pub items_in : List (List ℕ) → List Item
items_in [] = []
items_in (f ∷ fs) = with_item (item_of f) (items_in fs)
