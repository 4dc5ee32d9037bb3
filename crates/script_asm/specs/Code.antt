-- The operands of a line of a thread's code.
use Rattle.std.specs.Prelude.{ℕ, List, Result, Ok}
use Rattle.itm_entries.specs.declared.entry.Control.{Control}
use Rattle.itm_entries.specs.declared.entry.Control.TheVariants as controls
use Rattle.itm_entries.specs.declared.entry.Entry.{Entry}
use Rattle.itm_entries.specs.declared.entry.Entry.TheVariants as entries
use Rattle.script_fields.specs.declared.fault.FaultKind.{FaultKind}
use Rattle.script_fields.specs.Operands.{◌>>=◌}
use Rattle.script_fields.specs.Shapes.{none, one_register, two_registers, three_registers, register_number, register_literal, register_props, register_place, place_register, one_place, two_places, three_places, abort_scope, only_mode, commit_action, undo_action}
use Rattle.script_program.specs.declared.instruction.Instruction.{Instruction}
use Rattle.script_program.specs.declared.instruction.Instruction.TheVariants as code
use Rattle.script_asm.specs.declared.mnemonics.Mnemonic.{Mnemonic}
use Rattle.script_asm.specs.declared.mnemonics.Mnemonic.TheVariants as mnemonics

-- blocks, modes and actions
unfoldable pub control_code : Control → List (List ℕ) → Result Instruction FaultKind
control_code controls.BeginTransaction fs = register_props fs >>= λ x. Ok (code.Begin x.1 x.0)
control_code controls.CommitTransaction fs = none fs >>= λ _. Ok code.Commit
control_code controls.AbortTransaction fs = abort_scope fs >>= λ outer. Ok (code.Abort outer)
control_code controls.ChangeTransactionMode fs = only_mode fs >>= λ _. Ok code.Mode
control_code controls.InTransaction fs = one_register fs >>= λ to. Ok (code.InTransaction to)
control_code controls.AddUserCommitAction fs = commit_action fs >>= λ x. Ok (code.CommitAction x.0 x.1)
control_code controls.AddUserUndoAction fs = undo_action fs >>= λ x. Ok (code.UndoAction x.0 x.1)

-- the call of an entry point
unfoldable pub entry_code : Entry → List (List ℕ) → Result Instruction FaultKind
entry_code (entries.Control control) fs = control_code control fs
entry_code (entries.Read hint width) fs = register_place fs >>= λ x. Ok (code.Read hint width x.0 x.1)
entry_code (entries.Write hint width) fs = place_register fs >>= λ x. Ok (code.Write hint width x.0 x.1)
entry_code (entries.Log width) fs = one_place fs >>= λ at. Ok (code.Log width at)
entry_code entries.LogBytes fs = two_places fs >>= λ x. Ok (code.LogBytes x.0 x.1)
entry_code (entries.Copy moves pair) fs = three_places fs >>= λ x. Ok (code.Copy moves pair x.0 x.1.0 x.1.1)
entry_code (entries.Fill hint) fs = three_places fs >>= λ x. Ok (code.Fill hint x.0 x.1.0 x.1.1)

-- the instruction that the mnemonic and its operands are
unfoldable pub instruction_of : Mnemonic → List (List ℕ) → Result Instruction FaultKind
instruction_of mnemonics.Set fs = register_number fs >>= λ x. Ok (code.Set x.0 x.1)
instruction_of mnemonics.Bytes fs = register_literal fs >>= λ x. Ok (code.Bytes x.0 x.1)
instruction_of mnemonics.Move fs = two_registers fs >>= λ x. Ok (code.Move x.0 x.1)
instruction_of (mnemonics.Compute operation) fs = three_registers fs >>= λ x. Ok (code.Compute operation x.0 x.1.0 x.1.1)
instruction_of mnemonics.IfNotZero fs = one_register fs >>= λ register. Ok (code.IfNotZero register)
instruction_of mnemonics.Else fs = none fs >>= λ _. Ok code.Else
instruction_of mnemonics.EndIf fs = none fs >>= λ _. Ok code.EndIf
instruction_of (mnemonics.Load width) fs = register_place fs >>= λ x. Ok (code.Load width x.0 x.1)
instruction_of (mnemonics.Save width) fs = place_register fs >>= λ x. Ok (code.Save width x.0 x.1)
instruction_of (mnemonics.Entry entry) fs = entry_code entry fs
