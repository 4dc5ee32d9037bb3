-- What the lines of a section say: one more instruction, and blocks and groups that begin and end.
use Rattle.std.specs.Prelude.{ℕ, ◌+◌, ◌||◌, Bool, true, false, nat_eq, nat_lt, nat_le, [], ◌∷◌, ◌++◌, length, Option, Some, Result, Ok, if◌then◌else◌}
use Rattle.script_fields.specs.declared.fault.FaultKind.TheVariants as kinds
use Rattle.script_fields.specs.declared.fault.AsmFault.{AsmFault}
use Rattle.script_program.specs.declared.limits.TheConstants.{MAX_INSTRUCTIONS, MAX_LEVELS}
use Rattle.script_program.specs.declared.instruction.Instruction.{Instruction}
use Rattle.script_program.specs.declared.instruction.Instruction.TheVariants as code
use Rattle.script_asm.specs.declared.groups.Group.{Group}
use Rattle.script_asm.specs.declared.groups.Group.TheVariants as groups
use Rattle.script_asm.specs.declared.state.State.{State}
use Rattle.script_asm.specs.Groups.{innermost, outer, second_part, within_never}
use Rattle.script_program.specs.Sections.{Sections, instruction_total, expanded, counted_again}
use Rattle.script_asm.specs.Readings.{fault, ◌>>=◌}

-- one more instruction: one more line of code, or, where it is to stand 0 times, one that is counted and leaves nothing
abbrev pub added : Bool → Sections → Instruction → Sections
added false t i = record t { code = t.code ++ i ∷ [] }
added true t i = record t { left_out = t.left_out + 1 }

-- at most 65,536 in all sections
abbrev pub counted : State → ℕ → Instruction → Result State AsmFault
counted s n i =
    if nat_le MAX_INSTRUCTIONS (instruction_total s.threads)
    then fault n kinds.TooLong
    else Ok (record s { threads = added (within_never s.levels) s.threads i })

-- one more is open: at most 256 at once
abbrev pub opened : State → ℕ → Group → Result State AsmFault
opened s n g =
    if nat_le MAX_LEVELS (length s.levels)
    then fault n kinds.TooLong
    else Ok (record s { levels = record { line = n; group = g } ∷ s.levels })

-- the innermost has ended
abbrev pub without_innermost : State → State
without_innermost s = record s { levels = outer s.levels }

-- its second part has begun
abbrev pub in_second_part : State → State
in_second_part s = record s { levels = second_part s.levels }

-- ## Instructions

-- one that begins a block or a group
abbrev pub begins : State → ℕ → Instruction → Group → Result State AsmFault
begins s n i g = counted s n i >>= λ t. opened t n g

-- one that ends it
abbrev pub ends : State → ℕ → Instruction → Result State AsmFault
ends s n i = counted s n i >>= λ t. Ok (without_innermost t)

-- a commit ends a block, and none but the innermost
abbrev pub ends_block : State → ℕ → Option Group → Result State AsmFault
ends_block s n (Some groups.Block) = ends s n code.Commit
ends_block s n g = fault n kinds.Unbalanced

-- an `else` stands between the parts of the innermost
abbrev pub turns_group : State → ℕ → Option Group → Result State AsmFault
turns_group s n (Some groups.First) = counted s n code.Else >>= λ t. Ok (in_second_part t)
turns_group s n g = fault n kinds.Unbalanced

-- an `endif` ends either part
abbrev pub ends_group : State → ℕ → Option Group → Result State AsmFault
ends_group s n (Some groups.First) = ends s n code.EndIf
ends_group s n (Some groups.Second) = ends s n code.EndIf
ends_group s n g = fault n kinds.Unbalanced

unfoldable pub run_code : State → ℕ → Instruction → Result State AsmFault
run_code s n (code.Begin props r) = begins s n (code.Begin props r) groups.Block
run_code s n (code.IfNotZero r) = begins s n (code.IfNotZero r) groups.First
run_code s n code.Else = turns_group s n (innermost s.levels)
run_code s n code.EndIf = ends_group s n (innermost s.levels)
run_code s n code.Commit = ends_block s n (innermost s.levels)
run_code s n i = counted s n i

-- ## Lines that stand several times

-- where lines begin: after the code so far; where they are to stand 0 times, after what was left out so far
abbrev pub place_of : Bool → Sections → ℕ
place_of false t = length t.code
place_of true t = t.left_out

-- a group that is to stand so many times begins
abbrev pub repeats : State → ℕ → ℕ → Result State AsmFault
repeats s n times = opened s n (groups.Repeat (place_of (nat_eq times 0 || within_never s.levels) s.threads) times)

-- lines from a place on stand so many times in place of once, or, left out, count so many times
abbrev pub again : Bool → Sections → ℕ → ℕ → Sections
again false t start times = expanded t start times
again true t start times = counted_again t start times

-- the innermost ends, and leaves these sections, where their instructions are not too many
abbrev pub ends_repeat : State → ℕ → Sections → Result State AsmFault
ends_repeat s n t =
    if nat_lt MAX_INSTRUCTIONS (instruction_total t)
    then fault n kinds.TooLong
    else Ok (without_innermost (record s { threads = t }))

-- a group ends: its lines stand so many times in place of once, or count so many times where they were left out
unfoldable pub repeated : State → ℕ → Option Group → Result State AsmFault
repeated s n (Some (groups.Repeat start times)) = ends_repeat s n (again (within_never s.levels) s.threads start times)
repeated s n g = fault n kinds.Unbalanced
