-- What a first field is: a word of the table, or the name of an entry point.
use Rattle.std.specs.Prelude.{ℕ, List, [], ◌∷◌, Option, Some, None, codes}
use Rattle.itm_entries.specs.declared.entry.Entry.{Entry}
use Rattle.itm_entries.specs.Entries.{entry_of}
use Rattle.script_fields.specs.Names.{lookup}
use Rattle.script_program.specs.declared.instruction.Operation.TheVariants as operations
use Rattle.script_program.specs.declared.instruction.ArenaWidth.TheVariants as widths
use Rattle.script_asm.specs.declared.mnemonics.Word.{Word}
use Rattle.script_asm.specs.declared.mnemonics.Word.TheVariants as words
use Rattle.script_asm.specs.declared.mnemonics.Mnemonic.TheVariants as mnemonics

-- the words that are no entry points
abbrev pub table : List (List ℕ × Word)
table =
    (codes ".memory", words.Memory)
    ∷ (codes ".init", words.Init)
    ∷ (codes ".arena", words.Arena)
    ∷ (codes ".patience", words.Patience)
    ∷ (codes ".retries", words.Retries)
    ∷ (codes ".commits", words.Commits)
    ∷ (codes ".restarts", words.Restarts)
    ∷ (codes ".depth", words.Depth)
    ∷ (codes ".schedule", words.Schedule)
    ∷ (codes ".thread", words.Thread)
    ∷ (codes ".rept", words.Repeat)
    ∷ (codes ".endr", words.EndRepeat)
    ∷ (codes "set", words.Code mnemonics.Set)
    ∷ (codes "bytes", words.Code mnemonics.Bytes)
    ∷ (codes "mov", words.Code mnemonics.Move)
    ∷ (codes "add", words.Code (mnemonics.Compute operations.Add))
    ∷ (codes "sub", words.Code (mnemonics.Compute operations.Sub))
    ∷ (codes "and", words.Code (mnemonics.Compute operations.And))
    ∷ (codes "ltu", words.Code (mnemonics.Compute operations.LessThan))
    ∷ (codes "ld1", words.Code (mnemonics.Load widths.One))
    ∷ (codes "ld2", words.Code (mnemonics.Load widths.Two))
    ∷ (codes "ld4", words.Code (mnemonics.Load widths.Four))
    ∷ (codes "ld8", words.Code (mnemonics.Load widths.Eight))
    ∷ (codes "st1", words.Code (mnemonics.Save widths.One))
    ∷ (codes "st2", words.Code (mnemonics.Save widths.Two))
    ∷ (codes "st4", words.Code (mnemonics.Save widths.Four))
    ∷ (codes "st8", words.Code (mnemonics.Save widths.Eight))
    ∷ (codes "ifnz", words.Code mnemonics.IfNotZero)
    ∷ (codes "else", words.Code mnemonics.Else)
    ∷ (codes "endif", words.Code mnemonics.EndIf)
    ∷ []

-- the entry point's word
abbrev pub entry_word : Option Entry → Option Word
entry_word None = None
entry_word (Some e) = Some (words.Code (mnemonics.Entry e))

abbrev pub or_entry : Option Word → List ℕ → Option Word
or_entry (Some w) f = Some w
or_entry None f = entry_word (entry_of f)

-- the word that a first field is
unfoldable pub word_of : List ℕ → Option Word
word_of f = or_entry (lookup table f) f
