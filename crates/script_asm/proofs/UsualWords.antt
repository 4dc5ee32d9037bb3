-- The words of the entry points that most blocks have.
use Rattle.std.proofs.Common.{◌≡◌, ℕ, true, List, Some, refl, ap, ◌∙◌, codes, bytes_eq}
use Rattle.script_asm.proofs.Common.{entry_of, word_of}
use Rattle.std.proofs.lemmas.Slice.Eq.{bytes_eq-Decides}
use Rattle.itm_types.specs.declared.access.Width.TheVariants as width
use Rattle.itm_types.specs.declared.access.ReadHint.TheVariants as read
use Rattle.itm_types.specs.declared.access.WriteHint.TheVariants as write
use Rattle.itm_entries.specs.declared.entry.Control.TheVariants as control
use Rattle.itm_entries.specs.declared.entry.Entry.{Entry}
use Rattle.itm_entries.specs.declared.entry.Entry.TheVariants as entry
use Rattle.script_asm.specs.declared.mnemonics.Word.TheVariants as words
use Rattle.script_asm.specs.declared.mnemonics.Mnemonic.TheVariants as mnemonics

-- a field that equals a text has the text's word
named : (f text : List ℕ) (e : Entry) → bytes_eq f text ≡ true → word_of text ≡ Some (words.Code (mnemonics.Entry e)) → word_of f ≡ Some (words.Code (mnemonics.Entry e))
named f text e same found = ap word_of ((bytes_eq-Decides f text).0 same) ∙ found

begin_word : word_of (codes "_ITM_beginTransaction") ≡ Some (words.Code (mnemonics.Entry (entry.Control control.BeginTransaction)))
unfolding word_of entry_of
begin_word = refl

read_word : word_of (codes "_ITM_RU8") ≡ Some (words.Code (mnemonics.Entry (entry.Read read.R width.U8)))
unfolding word_of entry_of
read_word = refl

write_word : word_of (codes "_ITM_WU8") ≡ Some (words.Code (mnemonics.Entry (entry.Write write.W width.U8)))
unfolding word_of entry_of
write_word = refl

commit_word : word_of (codes "_ITM_commitTransaction") ≡ Some (words.Code (mnemonics.Entry (entry.Control control.CommitTransaction)))
unfolding word_of entry_of
commit_word = refl

pub begins : (f : List ℕ) → bytes_eq f (codes "_ITM_beginTransaction") ≡ true → word_of f ≡ Some (words.Code (mnemonics.Entry (entry.Control control.BeginTransaction)))
begins f same = named f _ _ same begin_word

pub reads : (f : List ℕ) → bytes_eq f (codes "_ITM_RU8") ≡ true → word_of f ≡ Some (words.Code (mnemonics.Entry (entry.Read read.R width.U8)))
reads f same = named f _ _ same read_word

pub writes : (f : List ℕ) → bytes_eq f (codes "_ITM_WU8") ≡ true → word_of f ≡ Some (words.Code (mnemonics.Entry (entry.Write write.W width.U8)))
writes f same = named f _ _ same write_word

pub commits : (f : List ℕ) → bytes_eq f (codes "_ITM_commitTransaction") ≡ true → word_of f ≡ Some (words.Code (mnemonics.Entry (entry.Control control.CommitTransaction)))
commits f same = named f _ _ same commit_word
