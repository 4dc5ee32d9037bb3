-- Where a line may stand.
use Rattle.std.specs.Prelude.{◌&&◌, not, Bool, nat_lt, is_some, is_none}
use Rattle.script_asm.specs.declared.mnemonics.Word.{Word}
use Rattle.script_asm.specs.declared.mnemonics.Word.TheVariants as words
use Rattle.script_asm.specs.declared.mnemonics.Mnemonic.{Mnemonic}
use Rattle.script_asm.specs.declared.mnemonics.Mnemonic.TheVariants as mnemonics
use Rattle.script_asm.specs.declared.state.State.{State}
use Rattle.script_asm.specs.Groups.{innermost, is_second}

-- a section has begun
abbrev pub has_begun : State → Bool
has_begun s = nat_lt 0 s.threads.count

-- code stands in sections, and only one `else` in a group
abbrev pub code_may_stand : State → Mnemonic → Bool
code_may_stand s mnemonics.Else = has_begun s && not (is_second (innermost s.levels))
code_may_stand s m = has_begun s

-- a line with this word may stand here
abbrev pub may_stand : State → Word → Bool
may_stand s words.Memory = is_none s.memory && not (has_begun s)
may_stand s words.Init = is_some s.memory && not (has_begun s)
may_stand s words.Arena = is_none s.limits.arena && not (has_begun s)
may_stand s words.Patience = is_none s.limits.patience && not (has_begun s)
may_stand s words.Retries = is_none s.limits.retries && not (has_begun s)
may_stand s words.Commits = is_none s.limits.commits && not (has_begun s)
may_stand s words.Restarts = is_none s.limits.restarts && not (has_begun s)
may_stand s words.Depth = is_none s.limits.depth && not (has_begun s)
may_stand s words.Schedule = not (has_begun s)
may_stand s words.Thread = is_some s.memory
may_stand s words.Repeat = has_begun s
may_stand s words.EndRepeat = has_begun s
may_stand s (words.Code m) = code_may_stand s m
