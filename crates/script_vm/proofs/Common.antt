-- The names that more than one proof cites, passed on from one place. Declares nothing.
pub use Rattle.itm_types.specs.declared.call.Reply.{Reply}
pub use Rattle.itm_types.specs.declared.call.Reply.TheVariants.{Bytes, Code, Done, Refused}
pub use Rattle.script_fields.specs.declared.register.Register.{Register}
pub use Rattle.script_fields.specs.declared.register.Register.TheVariants.{R0, R1, R2, R3, R4, R5}
pub use Rattle.script_program.specs.declared.instruction.Instruction.{Instruction}
pub use Rattle.script_vm.specs.BlockLaws.{closed_is, length-closed, none_is_no_call, one_longer, same_call}
pub use Rattle.script_vm.specs.Nesting.{block, blocks_in, group, Level, Nests}
unfoldable pub use Rattle.script_vm.specs.Registers.{datum}
pub use Rattle.script_vm.specs.Registers.{bytes_at, low, number_at, of_bytes, with_bytes, with_number, zeros}
pub use Rattle.script_vm.specs.Threads.{all_blocks, answered, answered_at, at_block, back_in, back_to, begun, Block, call_at, cancelled, cancelled_in, closed, depth_of, ended, entered, goes_on, innermost, innermost_of, may_open, next_call, no_block, open_past, Opened, opening, past_block, restarted, room, stopped, Thread, told, took}
pub use Rattle.script_vm.specs.Work.{chosen_by, computed, groups_in, settled, stage_past, worked}
pub use Rattle.script_vm.specs.declared.stage.Stage.{Stage}
pub use Rattle.script_vm.specs.declared.stage.Stage.TheVariants.{Runs, ToElse, ToEnd}
pub use Rattle.std.proofs.lemmas.Bool.{le-ltb, lt-ltb, ltb-false, ltb-true}
pub use Rattle.std.proofs.lemmas.List.{append-nil, drop-replicate, length-replicate, replicate-append-replicate, take-append-le}
pub use Rattle.std.specs.Prelude.{false, fold, List, None, refl, replicate, Some, true, ℕ, [], ◌++◌, ◌-◌, ◌^◌, ◌∷◌, ◌≡◌}
