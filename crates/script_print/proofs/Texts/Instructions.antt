-- The line of an instruction says the instruction.
use Rattle.std.proofs.Common.{◌≡◌, ℕ, cond, List, [], ◌∷◌, Some, None, Result, Ok, refl, sym, ◌∙◌, if◌then◌else◌}
use Rattle.script_print.proofs.Common.{AsmFault, Instruction, Mnemonic, State, abort_scope, code_may_stand, commit_action, control_code, entry_code, fault, function_again, instruction_fields, instruction_of, literal_again, mode_again, no_transaction_again, none, number_again, obeyed, one, one_place, one_register, only_mode, place_again, place_register, props_again, register_again, register_literal, register_number, register_place, register_props, run_code, said, scope_again, three, three_places, three_registers, two, two_places, two_registers, undo_action, word_of}
use Rattle.itm_entries.specs.declared.entry.Control.TheVariants as controls
use Rattle.itm_entries.specs.declared.entry.Entry.TheVariants as entries
use Rattle.script_fields.specs.declared.fault.FaultKind.TheVariants as kinds
use Rattle.script_program.specs.declared.instruction.Instruction.TheVariants as code
use Rattle.script_asm.specs.declared.mnemonics.Mnemonic.TheVariants as mnemonics
use Rattle.script_asm.specs.declared.mnemonics.Word.TheVariants as words
use Rattle.script_print.proofs.Printable.{IsSaid}
use Rattle.script_print.proofs.Texts.Words.{no_word, operation_word, load_word, save_word, entry_word}

-- ## What the line says

-- the mnemonic of an instruction's line
abbrev pub mnemonic_of : Instruction → Mnemonic
mnemonic_of (code.Set to number) = mnemonics.Set
mnemonic_of (code.Bytes to literal) = mnemonics.Bytes
mnemonic_of (code.Move to from) = mnemonics.Move
mnemonic_of (code.Compute operation to left right) = mnemonics.Compute operation
mnemonic_of (code.IfNotZero register) = mnemonics.IfNotZero
mnemonic_of code.Else = mnemonics.Else
mnemonic_of code.EndIf = mnemonics.EndIf
mnemonic_of (code.Load width to at) = mnemonics.Load width
mnemonic_of (code.Save width at from) = mnemonics.Save width
mnemonic_of (code.Begin props to) = mnemonics.Entry (entries.Control controls.BeginTransaction)
mnemonic_of code.Commit = mnemonics.Entry (entries.Control controls.CommitTransaction)
mnemonic_of (code.Abort outer) = mnemonics.Entry (entries.Control controls.AbortTransaction)
mnemonic_of code.Mode = mnemonics.Entry (entries.Control controls.ChangeTransactionMode)
mnemonic_of (code.InTransaction to) = mnemonics.Entry (entries.Control controls.InTransaction)
mnemonic_of (code.CommitAction fun arg) = mnemonics.Entry (entries.Control controls.AddUserCommitAction)
mnemonic_of (code.UndoAction fun arg) = mnemonics.Entry (entries.Control controls.AddUserUndoAction)
mnemonic_of (code.Read hint width to at) = mnemonics.Entry (entries.Read hint width)
mnemonic_of (code.Write hint width at from) = mnemonics.Entry (entries.Write hint width)
mnemonic_of (code.Log width at) = mnemonics.Entry (entries.Log width)
mnemonic_of (code.LogBytes at size) = mnemonics.Entry entries.LogBytes
mnemonic_of (code.Copy moves pair to from size) = mnemonics.Entry (entries.Copy moves pair)
mnemonic_of (code.Fill hint to byte size) = mnemonics.Entry (entries.Fill hint)

-- the first field, and those after it
abbrev first : List (List ℕ) → List ℕ
first [] = []
first (f ∷ fs) = f

abbrev rest : List (List ℕ) → List (List ℕ)
rest [] = []
rest (f ∷ fs) = fs

word_again : (i : Instruction) → word_of (first (instruction_fields i)) ≡ Some (words.Code (mnemonic_of i))
unfolding word_of
word_again (code.Set to number) = refl
word_again (code.Bytes to literal) = refl
word_again (code.Move to from) = refl
word_again (code.Compute operation to left right) = operation_word operation
word_again (code.IfNotZero register) = refl
word_again code.Else = refl
word_again code.EndIf = refl
word_again (code.Load width to at) = load_word width
word_again (code.Save width at from) = save_word width
word_again i = entry_word _

operands_again : (i : Instruction) → IsSaid i → instruction_of (mnemonic_of i) (rest (instruction_fields i)) ≡ Ok i
unfolding instruction_of entry_code control_code none one two three one_register two_registers three_registers register_number register_literal register_props register_place place_register one_place two_places three_places abort_scope only_mode commit_action undo_action
operands_again (code.Set to number) h = rw (register_again to, number_again number h) refl
operands_again (code.Bytes to literal) h = rw (register_again to, literal_again literal h) refl
operands_again (code.Move to from) h = rw (register_again to, register_again from) refl
operands_again (code.Compute operation to left right) h = rw (register_again to, register_again left, register_again right) refl
operands_again (code.IfNotZero register) h = rw (register_again register) refl
operands_again (code.Load width to at) h = rw (register_again to, place_again at h) refl
operands_again (code.Save width at from) h = rw (register_again from, place_again at h) refl
operands_again (code.Begin props to) h = rw (register_again to, props_again props) refl
operands_again (code.Abort outer) h = rw (scope_again outer) refl
operands_again code.Mode h = rw mode_again refl
operands_again (code.InTransaction to) h = rw (register_again to) refl
operands_again (code.CommitAction fun arg) h = rw (function_again fun h.0, no_transaction_again, place_again arg h.1) refl
operands_again (code.UndoAction fun arg) h = rw (function_again fun h.0, place_again arg h.1) refl
operands_again (code.Read hint width to at) h = rw (register_again to, place_again at h) refl
operands_again (code.Write hint width at from) h = rw (register_again from, place_again at h) refl
operands_again (code.Log width at) h = rw (place_again at h) refl
operands_again (code.LogBytes at size) h = rw (place_again at h.0, place_again size h.1) refl
operands_again (code.Copy moves pair to from size) h = rw (place_again to h.0, place_again from h.1.0, place_again size h.1.1) refl
operands_again (code.Fill hint to byte size) h = rw (place_again to h.0, place_again byte h.1.0, place_again size h.1.1) refl
operands_again i h = refl

-- ## What is said

-- an instruction runs where its line may stand
abbrev pub stands : State → ℕ → Instruction → Result State AsmFault
stands s n i = if code_may_stand s (mnemonic_of i) then run_code s n i else fault n kinds.Misplaced

code_line : (s : State) (n : ℕ) (fs : List (List ℕ)) (m : Mnemonic) (i : Instruction) → word_of (first fs) ≡ Some (words.Code m) → instruction_of m (rest fs) ≡ Ok i
    → said s n fs ≡ cond (code_may_stand s m) (run_code s n i) (fault n kinds.Misplaced)
unfolding obeyed
code_line s n [] m i word operands = let none : None ≡ Some (words.Code m) = sym no_word ∙ word in absurd cc
code_line s n (f ∷ fs) m i word operands = rw (word, operands) refl

pub instruction_again : (s : State) (n : ℕ) (i : Instruction) → IsSaid i → said s n (instruction_fields i) ≡ stands s n i
instruction_again s n i h = code_line s n (instruction_fields i) (mnemonic_of i) i (word_again i) (operands_again i h)
