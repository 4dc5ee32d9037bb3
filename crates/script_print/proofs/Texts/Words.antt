-- The first field of an instruction's line is the word of its code.
use Rattle.std.proofs.Common.{◌≡◌, true, [], Some, None, refl, arith, lit<}
use Rattle.script_print.proofs.Common.{All-contains, AllPass-from_list_all, Entry, IsField, is_field_byte, list_all, load_name, operation_name, save_name, word_of}
use Rattle.itm_entries.{specs.Names.name_of, specs.Entries.entries, specs.Entries.entry_of, proofs.AllEntries.listed, proofs.UniqueNames.entry_of-exact}
use Rattle.script_program.{specs.declared.instruction.Operation.Operation, specs.declared.instruction.ArenaWidth.ArenaWidth}
use Rattle.script_program.specs.declared.instruction.Operation.TheVariants as operations
use Rattle.script_program.specs.declared.instruction.ArenaWidth.TheVariants as widths
use Rattle.script_asm.specs.declared.mnemonics.Word.TheVariants as words
use Rattle.script_asm.specs.declared.mnemonics.Mnemonic.TheVariants as mnemonics

pub no_word : word_of [] ≡ None
unfolding word_of entry_of
no_word = refl

-- ## Operations and widths

pub operation_word : (o : Operation) → word_of (operation_name o) ≡ Some (words.Code (mnemonics.Compute o))
unfolding word_of
operation_word operations.Add = refl
operation_word o = refl

pub load_word : (w : ArenaWidth) → word_of (load_name w) ≡ Some (words.Code (mnemonics.Load w))
unfolding word_of
load_word widths.One = refl
load_word w = refl

pub save_word : (w : ArenaWidth) → word_of (save_name w) ≡ Some (words.Code (mnemonics.Save w))
unfolding word_of
save_word widths.One = refl
save_word w = refl

pub operation_field : (o : Operation) → IsField (operation_name o)
operation_field operations.Add = (lit< tt, refl)
operation_field o = (lit< tt, refl)

pub load_field : (w : ArenaWidth) → IsField (load_name w)
load_field widths.One = (lit< tt, refl)
load_field w = (lit< tt, refl)

pub save_field : (w : ArenaWidth) → IsField (save_name w)
save_field widths.One = (lit< tt, refl)
save_field w = (lit< tt, refl)

-- ## Entry points

-- none of the other words begins as the names of entry points do
pub entry_word : (e : Entry) → word_of (name_of e) ≡ Some (words.Code (mnemonics.Entry e))
unfolding word_of
entry_word e = rw ((entry_of-exact (name_of e) e).1 refl) refl

pub entry_field : (e : Entry) → IsField (name_of e)
entry_field e = (omega arith, All-contains (λ (e : Entry). list_all is_field_byte (name_of e) ≡ true) entries e (AllPass-from_list_all (λ (e : Entry). list_all is_field_byte (name_of e)) entries refl) (listed e))
