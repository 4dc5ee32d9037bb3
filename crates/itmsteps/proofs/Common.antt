-- The names that more than one proof cites, passed on from one place. Declares nothing.
pub use Rattle.history_picture.specs.Seats.{InOrder}
pub use Rattle.history_picture.specs.declared.seats.Seat.{Seat}
pub use Rattle.itmsteps.specs.Choices.{shown_text, view_of}
unfoldable pub use Rattle.itmsteps.specs.Doing.{fault_line}
pub use Rattle.itmsteps.specs.Doing.{Done, failure_line, fault_status, showing}
pub use Rattle.itmsteps.specs.Histories.{drawing, IsDrawn, IsJudgement, IsNote}
pub use Rattle.itmsteps.specs.Told.{Tells}
pub use Rattle.itmsteps.specs.declared.choice.Choice.{Choice}
pub use Rattle.script_fields.specs.declared.fault.AsmFault.{AsmFault}
pub use Rattle.script_program.specs.declared.schedule.Item.{Item}
pub use Rattle.script_vm.specs.Threads.{Thread, thread_rules}
pub use Rattle.step_table.proofs.RowLists.{schedule_whole}
pub use Rattle.step_table.specs.Rows.{Row, ScheduleFirst, ScheduleRows}
pub use Rattle.step_table.specs.Table.{table_text}
pub use Rattle.step_table.specs.declared.view.View.{View}
pub use Rattle.text_commands.specs.Answers.{Outputs, Says}
pub use Rattle.text_commands.specs.declared.failure.Failure.{Failure}
pub use Rattle.text_commands.specs.declared.failure.Failure.TheVariants.{Faulty, NoMemory, NoThread, Reading, Writing}
pub use Rattle.tx_history.specs.Spelling.{IsCut, Writes}
pub use Rattle.world_rules.specs.World.{World}
pub use Rattle.std.proofs.KnownBytes.{Appends-kept, Appends-nil}
pub use Rattle.std.proofs.lemmas.Result.{err_from_is_err_and}
pub use Rattle.std.specs.Io.KnownBytes.{Appends, Keeps}
pub use Rattle.std.specs.List.{range_with_len}
