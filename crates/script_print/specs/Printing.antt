-- The canonical script of a program.
use Rattle.std.specs.Prelude.{◌≡◌, ℕ, ◌==◌, ◌≤◌, List, [], ◌∷◌, ◌++◌, length, map, Ok, if◌then◌else◌, codes, decimal}
use Rattle.std.specs.List.{flat_map}
use Rattle.hex.specs.Hex.{encode_lower}
use Rattle.itm_entries.specs.declared.entry.Control.TheVariants as controls
use Rattle.itm_entries.specs.declared.entry.Entry.TheVariants as entries
use Rattle.itm_types.specs.declared.limits.TheConstants.{USUAL_DEPTH}
use Rattle.itm_entries.specs.Names.{name_of}
use Rattle.script_fields.specs.Text.{joined, ended}
use Rattle.script_fields.specs.Registers.{register_name}
use Rattle.script_fields.specs.Properties.{props_text}
use Rattle.script_fields.specs.Spelling.{place_text, literal_text, scope_text, mode_text, no_transaction_text}
use Rattle.script_program.specs.declared.instruction.Operation.{Operation}
use Rattle.script_program.specs.declared.instruction.Operation.TheVariants as operations
use Rattle.script_program.specs.declared.instruction.ArenaWidth.{ArenaWidth}
use Rattle.script_program.specs.declared.instruction.ArenaWidth.TheVariants as widths
use Rattle.script_program.specs.declared.instruction.Instruction.{Instruction}
use Rattle.script_program.specs.declared.instruction.Instruction.TheVariants as code
use Rattle.script_program.specs.declared.schedule.Item.{Item}
use Rattle.script_program.specs.declared.schedule.Item.TheVariants.{Take, Out}
use Rattle.script_program.specs.declared.limits.TheConstants.{MAX_TEXT}
use Rattle.script_program.specs.Listing.{Listing, Placed, Part}
use Rattle.script_asm.specs.Assembly.{program_of}

-- ## Instructions

abbrev pub operation_name : Operation → List ℕ
operation_name operations.Add = codes "add"
operation_name operations.Sub = codes "sub"
operation_name operations.And = codes "and"
operation_name operations.LessThan = codes "ltu"

abbrev pub load_name : ArenaWidth → List ℕ
load_name widths.One = codes "ld1"
load_name widths.Two = codes "ld2"
load_name widths.Four = codes "ld4"
load_name widths.Eight = codes "ld8"

abbrev pub save_name : ArenaWidth → List ℕ
save_name widths.One = codes "st1"
save_name widths.Two = codes "st2"
save_name widths.Four = codes "st4"
save_name widths.Eight = codes "st8"

-- the fields of an instruction's line
abbrev pub instruction_fields : Instruction → List (List ℕ)
instruction_fields (code.Set to number) = codes "set" ∷ register_name to ∷ decimal number ∷ []
instruction_fields (code.Bytes to literal) = codes "bytes" ∷ register_name to ∷ literal_text literal ∷ []
instruction_fields (code.Move to from) = codes "mov" ∷ register_name to ∷ register_name from ∷ []
instruction_fields (code.Compute operation to left right) = operation_name operation ∷ register_name to ∷ register_name left ∷ register_name right ∷ []
instruction_fields (code.IfNotZero register) = codes "ifnz" ∷ register_name register ∷ []
instruction_fields code.Else = codes "else" ∷ []
instruction_fields code.EndIf = codes "endif" ∷ []
instruction_fields (code.Load width to at) = load_name width ∷ register_name to ∷ place_text at ∷ []
instruction_fields (code.Save width at from) = save_name width ∷ place_text at ∷ register_name from ∷ []
instruction_fields (code.Begin props to) = name_of (entries.Control controls.BeginTransaction) ∷ register_name to ∷ props_text props ∷ []
instruction_fields code.Commit = name_of (entries.Control controls.CommitTransaction) ∷ []
instruction_fields (code.Abort outer) = name_of (entries.Control controls.AbortTransaction) ∷ scope_text outer ∷ []
instruction_fields code.Mode = name_of (entries.Control controls.ChangeTransactionMode) ∷ mode_text ∷ []
instruction_fields (code.InTransaction to) = name_of (entries.Control controls.InTransaction) ∷ register_name to ∷ []
instruction_fields (code.CommitAction fun arg) =
    name_of (entries.Control controls.AddUserCommitAction) ∷ decimal fun ∷ no_transaction_text ∷ place_text arg ∷ []
instruction_fields (code.UndoAction fun arg) = name_of (entries.Control controls.AddUserUndoAction) ∷ decimal fun ∷ place_text arg ∷ []
instruction_fields (code.Read hint width to at) = name_of (entries.Read hint width) ∷ register_name to ∷ place_text at ∷ []
instruction_fields (code.Write hint width at from) = name_of (entries.Write hint width) ∷ place_text at ∷ register_name from ∷ []
instruction_fields (code.Log width at) = name_of (entries.Log width) ∷ place_text at ∷ []
instruction_fields (code.LogBytes at size) = name_of entries.LogBytes ∷ place_text at ∷ place_text size ∷ []
instruction_fields (code.Copy moves pair to from size) = name_of (entries.Copy moves pair) ∷ place_text to ∷ place_text from ∷ place_text size ∷ []
instruction_fields (code.Fill hint to byte size) = name_of (entries.Fill hint) ∷ place_text to ∷ place_text byte ∷ place_text size ∷ []

-- ## Directives

-- one number after a directive
abbrev pub number_fields : List ℕ → ℕ → List (List ℕ)
number_fields word n = word ∷ decimal n ∷ []

-- how often inner blocks may run again, where they may
abbrev pub restart_lines : ℕ → List (List (List ℕ))
restart_lines restarts = if restarts == 0 then [] else number_fields (codes ".restarts") restarts ∷ []

-- how many blocks may be open at once, where it is not what it is where a script says none
abbrev pub depth_lines : ℕ → List (List (List ℕ))
depth_lines depth = if depth == USUAL_DEPTH then [] else number_fields (codes ".depth") depth ∷ []

-- the sizes and the limits, but for restarts and the depth those too that are what they are where a script says none
abbrev pub limit_lines : Listing → List (List (List ℕ))
limit_lines p =
    number_fields (codes ".memory") p.memory.size
    ∷ number_fields (codes ".arena") p.arena
    ∷ number_fields (codes ".patience") p.limits.patience
    ∷ number_fields (codes ".retries") p.limits.retries
    ∷ number_fields (codes ".commits") p.limits.max_commits
    ∷ (restart_lines p.limits.restarts ++ depth_lines p.limits.depth)

abbrev pub init_fields : Placed → List (List ℕ)
init_fields i = codes ".init" ∷ decimal i.at ∷ encode_lower i.bytes ∷ []

-- `TxK` or `T!`
abbrev pub item_text : Item → List ℕ
item_text (Take thread count) = decimal thread ++ 120 ∷ decimal count
item_text (Out thread) = decimal thread ++ 33 ∷ []

abbrev pub item_fields : Item → List (List ℕ)
item_fields i = codes ".schedule" ∷ item_text i ∷ []

abbrev pub thread_fields : ℕ → List (List ℕ)
thread_fields count = if count == 1 then codes ".thread" ∷ [] else number_fields (codes ".thread") count

abbrev pub part_lines : Part → List (List (List ℕ))
part_lines p = thread_fields p.count ∷ map instruction_fields p.code

-- ## The whole text

-- the fields of each line: sizes and limits, bytes of the memory, items, and the sections with their code
abbrev pub program_lines : Listing → List (List (List ℕ))
program_lines p = limit_lines p ++ map init_fields p.memory.inits ++ map item_fields p.schedule ++ flat_map part_lines p.parts

-- one space between fields, and a line feed after each line
unfoldable pub printed : Listing → List ℕ
printed p = ended (map joined (program_lines p))

-- where some text says the program, this text says it too, unless it is larger than a script may be
abbrev pub SaysAgain : Listing → List ℕ → Type 0
SaysAgain p print = (text : List ℕ) → program_of text ≡ Ok p → length print ≤ MAX_TEXT → program_of print ≡ Ok p
