-- Instructions that were read are some that a line can say.
use Rattle.std.proofs.Common.{ℕ, List, Result, Ok}
use Rattle.script_print.proofs.Common.{FaultKind, Entry, IfOk, Instruction, Mnemonic, abort_scope, after_if, bind_if, commit_action, control_code, entry_code, instruction_of, none, one_place, one_register, only_mode, place_register, register_literal, register_number, register_place, register_props, three_places, three_registers, two_places, two_registers, undo_action}
use Rattle.itm_entries.specs.declared.entry.Control.{Control}
use Rattle.itm_entries.specs.declared.entry.Control.TheVariants as controls
use Rattle.itm_entries.specs.declared.entry.Entry.TheVariants as entries
use Rattle.script_fields.specs.Operands.{◌>>=◌}
use Rattle.script_program.specs.declared.instruction.Instruction.TheVariants as code
use Rattle.script_asm.specs.declared.mnemonics.Mnemonic.TheVariants as mnemonics
use Rattle.script_print.proofs.Printable.{IsSaid}
use Rattle.script_print.proofs.Assembly.Operands.{register_number_if, register_literal_if, register_place_if, place_register_if, one_place_if, two_places_if, three_places_if, commit_action_if, undo_action_if}

-- an instruction of operands that were read
made : {A : Type 0} (P : A → Type 0) (r : Result A FaultKind) (f : A → Instruction) → IfOk r P → ((x : A) → P x → IsSaid (f x)) → IfOk (r >>= λ x. Ok (f x)) IsSaid
made P r f h k = bind_if P IsSaid r (λ x. Ok (f x)) h k

-- one of any operands
of_any : {A : Type 0} (r : Result A FaultKind) (f : A → Instruction) → ((x : A) → IsSaid (f x)) → IfOk (r >>= λ x. Ok (f x)) IsSaid
of_any r f h = after_if IsSaid r (λ x. Ok (f x)) h

control_said : (c : Control) (fs : List (List ℕ)) → IfOk (control_code c fs) IsSaid
unfolding control_code
control_said controls.BeginTransaction fs = of_any (register_props fs) (λ x. code.Begin x.1 x.0) (λ x. tt)
control_said controls.CommitTransaction fs = of_any (none fs) (λ x. code.Commit) (λ x. tt)
control_said controls.AbortTransaction fs = of_any (abort_scope fs) (λ outer. code.Abort outer) (λ x. tt)
control_said controls.ChangeTransactionMode fs = of_any (only_mode fs) (λ x. code.Mode) (λ x. tt)
control_said controls.InTransaction fs = of_any (one_register fs) (λ to. code.InTransaction to) (λ x. tt)
control_said controls.AddUserCommitAction fs = made _ (commit_action fs) (λ x. code.CommitAction x.0 x.1) (commit_action_if fs) (λ x h. h)
control_said controls.AddUserUndoAction fs = made _ (undo_action fs) (λ x. code.UndoAction x.0 x.1) (undo_action_if fs) (λ x h. h)

entry_said : (entry : Entry) (fs : List (List ℕ)) → IfOk (entry_code entry fs) IsSaid
unfolding entry_code
entry_said (entries.Control control) fs = control_said control fs
entry_said (entries.Read hint width) fs = made _ (register_place fs) (λ x. code.Read hint width x.0 x.1) (register_place_if fs) (λ x h. h.1)
entry_said (entries.Write hint width) fs = made _ (place_register fs) (λ x. code.Write hint width x.0 x.1) (place_register_if fs) (λ x h. h.0)
entry_said (entries.Log width) fs = made _ (one_place fs) (λ at. code.Log width at) (one_place_if fs) (λ x h. h)
entry_said entries.LogBytes fs = made _ (two_places fs) (λ x. code.LogBytes x.0 x.1) (two_places_if fs) (λ x h. h)
entry_said (entries.Copy moves pair) fs = made _ (three_places fs) (λ x. code.Copy moves pair x.0 x.1.0 x.1.1) (three_places_if fs) (λ x h. h)
entry_said (entries.Fill hint) fs = made _ (three_places fs) (λ x. code.Fill hint x.0 x.1.0 x.1.1) (three_places_if fs) (λ x h. h)

-- what was read as an instruction is one that a line can say
pub instruction_said : (m : Mnemonic) (fs : List (List ℕ)) → IfOk (instruction_of m fs) IsSaid
unfolding instruction_of
instruction_said mnemonics.Set fs = made _ (register_number fs) (λ x. code.Set x.0 x.1) (register_number_if fs) (λ x h. h.1)
instruction_said mnemonics.Bytes fs = made _ (register_literal fs) (λ x. code.Bytes x.0 x.1) (register_literal_if fs) (λ x h. h.1)
instruction_said mnemonics.Move fs = of_any (two_registers fs) (λ x. code.Move x.0 x.1) (λ x. tt)
instruction_said (mnemonics.Compute operation) fs = of_any (three_registers fs) (λ x. code.Compute operation x.0 x.1.0 x.1.1) (λ x. tt)
instruction_said mnemonics.IfNotZero fs = of_any (one_register fs) (λ register. code.IfNotZero register) (λ x. tt)
instruction_said mnemonics.Else fs = of_any (none fs) (λ x. code.Else) (λ x. tt)
instruction_said mnemonics.EndIf fs = of_any (none fs) (λ x. code.EndIf) (λ x. tt)
instruction_said (mnemonics.Load width) fs = made _ (register_place fs) (λ x. code.Load width x.0 x.1) (register_place_if fs) (λ x h. h.1)
instruction_said (mnemonics.Save width) fs = made _ (place_register fs) (λ x. code.Save width x.0 x.1) (place_register_if fs) (λ x h. h.0)
instruction_said (mnemonics.Entry entry) fs = entry_said entry fs
