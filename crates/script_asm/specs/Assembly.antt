-- What a script says, line by line: its program, or its first fault.
use Rattle.std.specs.Prelude.{ℕ, ◌+◌, nat_lt, List, [], ◌∷◌, length, Option, Some, None, Result, Ok, if◌then◌else◌}
use Rattle.std.specs.List.{list_all}
use Rattle.std.specs.Str.Lines.{lines}
use Rattle.itm_types.specs.declared.limits.TheConstants.{MAX_ARENA, MAX_PATIENCE, MAX_RESTARTS, MAX_RETRIES, MAX_COMMITS, MAX_DEPTH}
use Rattle.script_fields.specs.declared.fault.FaultKind.TheVariants as kinds
use Rattle.script_fields.specs.declared.fault.AsmFault.{AsmFault}
use Rattle.script_fields.specs.Text.{fields, without_comment, is_allowed}
use Rattle.script_fields.specs.Shapes.{none, size_of, limit_of, init_of, count_of}
use Rattle.script_program.specs.declared.limits.TheConstants.{MAX_TEXT, MAX_REPEATS}
use Rattle.script_asm.specs.declared.mnemonics.Word.{Word}
use Rattle.script_asm.specs.declared.mnemonics.Word.TheVariants as words
use Rattle.script_asm.specs.declared.state.State.{State}
use Rattle.script_program.specs.Listing.{Listing, Shared, limits_of, arena_of}
use Rattle.script_program.specs.Sections.{parts_of, thread_total}
use Rattle.script_program.specs.Schedules.{stray_of}
use Rattle.script_asm.specs.Groups.{innermost, innermost_line}
use Rattle.script_asm.specs.Words.{word_of}
use Rattle.script_asm.specs.Items.{schedule_of}
use Rattle.script_asm.specs.Code.{instruction_of}
use Rattle.script_asm.specs.Readings.{fault, at_line, ◌>>=◌}
use Rattle.script_asm.specs.Placement.{has_begun, may_stand}
use Rattle.script_asm.specs.Directives.{laid_in, scheduled, threaded}
use Rattle.script_asm.specs.Blocks.{run_code, repeats, repeated}

-- ## One line

-- what a line with this word and these fields after it says
unfoldable pub obeyed : State → ℕ → Word → List (List ℕ) → Result State AsmFault
obeyed s n words.Memory fs = at_line n (size_of fs) >>= λ m. Ok (record s { memory = Some (record { size = m; inits = [] }) })
obeyed s n words.Init fs = at_line n (init_of fs) >>= λ x. laid_in s n x s.memory
obeyed s n words.Arena fs = at_line n (limit_of 0 MAX_ARENA fs) >>= λ k. Ok (record s { limits = record s.limits { arena = Some k } })
obeyed s n words.Patience fs = at_line n (limit_of 1 MAX_PATIENCE fs) >>= λ k. Ok (record s { limits = record s.limits { patience = Some k } })
obeyed s n words.Retries fs = at_line n (limit_of 0 MAX_RETRIES fs) >>= λ k. Ok (record s { limits = record s.limits { retries = Some k } })
obeyed s n words.Commits fs = at_line n (limit_of 1 MAX_COMMITS fs) >>= λ k. Ok (record s { limits = record s.limits { commits = Some k } })
obeyed s n words.Restarts fs = at_line n (limit_of 0 MAX_RESTARTS fs) >>= λ k. Ok (record s { limits = record s.limits { restarts = Some k } })
obeyed s n words.Depth fs = at_line n (limit_of 1 MAX_DEPTH fs) >>= λ k. Ok (record s { limits = record s.limits { depth = Some k } })
obeyed s n words.Schedule fs = at_line n (schedule_of fs) >>= scheduled s n
obeyed s n words.Thread fs = at_line n (count_of fs) >>= λ count. threaded s n count (innermost_line s.levels)
obeyed s n words.Repeat fs = at_line n (limit_of 0 MAX_REPEATS fs) >>= repeats s n
obeyed s n words.EndRepeat fs = at_line n (none fs) >>= λ _. repeated s n (innermost s.levels)
obeyed s n (words.Code m) fs = at_line n (instruction_of m fs) >>= run_code s n

abbrev pub worded : State → ℕ → Option Word → List (List ℕ) → Result State AsmFault
worded s n None fs = fault n kinds.Unknown
worded s n (Some w) fs = if may_stand s w then obeyed s n w fs else fault n kinds.Misplaced

abbrev pub said : State → ℕ → List (List ℕ) → Result State AsmFault
said s n [] = Ok s
said s n (f ∷ fs) = worded s n (word_of f) fs

-- what line n says after those before it: its characters first, then its word, where it stands, its operands, and what they say
unfoldable pub meaning : State → ℕ → List ℕ → Result State AsmFault
meaning s n line = if list_all is_allowed (without_comment line) then said s n (fields (without_comment line)) else fault n kinds.Character

-- ## The whole text

abbrev pub listing_of : State → Shared → Listing
listing_of s m = record {
  memory = m;
  arena = arena_of s.limits;
  limits = limits_of s.limits;
  schedule = s.schedule.items;
  parts = parts_of s.threads;
}

-- every item has to name a thread
abbrev pub named : State → Shared → Option ℕ → Result Listing AsmFault
named s m (Some line) = fault line kinds.Range
named s m None = Ok (listing_of s m)

abbrev pub complete : State → Option Shared → Result Listing AsmFault
complete s None = fault 0 kinds.Misplaced
complete s (Some m) =
    if has_begun s
    then named s m (stray_of (thread_total s.threads) s.schedule.items s.schedule.lines)
    else fault 0 kinds.Misplaced

abbrev pub closed : State → Option ℕ → Result Listing AsmFault
closed s None = complete s s.memory
closed s (Some line) = fault line kinds.Unbalanced

-- what a text is whose lines say this: something that is open is told in the line of the innermost beginning
unfoldable pub end_of : State → Result Listing AsmFault
end_of s = closed s (innermost_line s.levels)

-- what the lines say from line n on
abbrev pub lines_say : State → ℕ → List (List ℕ) → Result State AsmFault
lines_say s n [] = Ok s
lines_say s n (line ∷ more) = meaning s n line >>= λ t. lines_say t (n + 1) more

abbrev pub initial : State
initial = record {
  memory = None;
  limits = record { arena = None; patience = None; retries = None; commits = None; restarts = None; depth = None };
  schedule = record { items = []; lines = [] };
  threads = record { ended = []; count = 0; code = []; left_out = 0 };
  levels = [];
}

-- the program that the text says, or the first fault
unfoldable pub program_of : List ℕ → Result Listing AsmFault
program_of text =
    if nat_lt MAX_TEXT (length text)
    then fault 0 kinds.TooLong
    else (lines_say initial 1 (lines text) >>= end_of)
