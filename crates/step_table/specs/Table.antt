-- The text of a table.
use Rattle.std.specs.Prelude.{ℕ, ◌*◌, ◌-◌, ◌==◌, ◌&&◌, nat_le, Bool, if◌then◌else◌, List, [], ◌++◌, length, flat_map, replicate, decimal, codes, Option, None, Some}
use Rattle.std.specs.List.{list_any}
use Rattle.itm_types.specs.declared.step.Step.{Step}
use Rattle.itm_types.specs.declared.step.Step.TheVariants.{Load, Store, Cas}
use Rattle.world_rules.specs.declared.operation.Operation.{Operation}
use Rattle.step_table.specs.declared.event.Event.{Event}
use Rattle.step_table.specs.declared.view.View.{View}
use Rattle.step_table.specs.Came.{came_text}
use Rattle.step_table.specs.Rows.{Row}

-- ## Operations

-- the clock, or a word, by its first byte
unfoldable pub cell_text : ℕ → List ℕ
cell_text cell = if cell == 0 then codes "clock" else codes "[" ++ decimal (8 * (cell - 1)) ++ codes "]"

-- an exchange, and what it finds where that is something else
unfoldable pub exchange_text : ℕ → ℕ → List ℕ
exchange_text from found = if found == from then codes "take " ++ decimal from else codes "take " ++ decimal from ++ codes ": finds " ++ decimal found

-- an operation with what it finds
unfoldable pub step_text : Step → ℕ → List ℕ
step_text (Load cell) found = cell_text cell ++ codes " = " ++ decimal found
step_text (Store cell value) found = cell_text cell ++ codes " := " ++ decimal value
step_text (Cas cell from to) found = exchange_text from found

abbrev pub operation_text : Operation → List ℕ
operation_text o = step_text o.step o.found

-- ## Columns

-- blanks behind or before a text, up to this width
abbrev pub blanks_beside : ℕ → List ℕ → List ℕ
blanks_beside width text = replicate (width - length text) 32

-- a number, with blanks before it
unfoldable pub number_text : ℕ → List ℕ
number_text n = blanks_beside 5 (decimal n) ++ decimal n

-- what stands in the column of a thread: in the line of an event of its own the operation, in that of another one nothing, and in the head of the table the thread's number
unfoldable pub cell_of : Option Event → ℕ → List ℕ
cell_of None thread = codes "thread " ++ decimal thread
cell_of (Some event) thread = if event.thread == thread then operation_text event.operation else []

unfoldable pub column_text : Option Event → ℕ → List ℕ
column_text event thread = cell_of event thread ++ blanks_beside 26 (cell_of event thread) ++ codes " | "

-- ## Lines

-- before the columns of the threads, and behind them
unfoldable pub front_text : Event → List ℕ
front_text event = number_text event.number ++ codes "  "

unfoldable pub back_text : Event → List ℕ → List ℕ
back_text event came = number_text event.clock ++ came ++ codes "\n"

unfoldable pub event_text : List ℕ → Event → List ℕ → List ℕ
event_text threads event came = front_text event ++ flat_map (column_text (Some event)) threads ++ back_text event came

-- what came of an event, in words
abbrev pub came_of : Row → List ℕ
came_of row = came_text row.event.operation.step row.goes_on row.had row.calls row.ended row.active row.ending

-- its number is one of those that are shown, and its thread has a column
abbrev pub shows : View → Event → Bool
shows view event = nat_le view.from event.number && nat_le event.number view.to && list_any (λ thread. thread == event.thread) view.columns.items

-- the line of an event that is shown, of which this came; of another one there is none
abbrev pub line_of : View → Event → List ℕ → List ℕ
line_of view event came = if shows view event then event_text view.columns.items event came else []

abbrev pub line_text : View → Row → List ℕ
line_text view row = line_of view row.event (came_of row)

-- the head of the table
unfoldable pub head_text : View → List ℕ
head_text view = codes "event  " ++ flat_map (column_text None) view.columns.items ++ codes "clock\n"

abbrev pub lines_text : View → List Row → List ℕ
lines_text view rows = flat_map (line_text view) rows

-- the table of these events
abbrev pub table_text : View → List Row → List ℕ
table_text view rows = head_text view ++ lines_text view rows
