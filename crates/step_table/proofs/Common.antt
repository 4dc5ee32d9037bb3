-- The names that more than one proof cites, passed on from one place. Declares nothing.
pub use Rattle.itm_types.specs.declared.step.Step.{Step}
pub use Rattle.script_program.specs.declared.schedule.Item.{Item}
pub use Rattle.script_program.specs.declared.schedule.Item.TheVariants.{Out, Take}
pub use Rattle.step_table.specs.Rows.{AreOf, AreRows, ItemFirst, ItemRows, Row, RowsOf, ScheduleFirst, ScheduleRows, SoMany}
pub use Rattle.step_table.specs.Said.{said}
unfoldable pub use Rattle.step_table.specs.Table.{back_text, cell_of, cell_text, column_text, event_text, exchange_text, front_text, head_text, number_text, step_text}
pub use Rattle.step_table.specs.Table.{blanks_beside, came_of, line_of, line_text, lines_text, shows, table_text}
pub use Rattle.step_table.specs.declared.event.Event.{Event}
pub use Rattle.step_table.specs.declared.view.View.{View}
pub use Rattle.tx_history.proofs.TextPieces.{cut_short, put_as}
pub use Rattle.tx_history.specs.Spelling.{IsCut, Puts, spelled}
pub use Rattle.tx_player.specs.Rules.{Rules}
pub use Rattle.world_rules.proofs.Events.WorldEvents.{call_falls, call_left_at, leaves_on, LeavesLessSoFar, LeavesNoMore, no_more_first, no_more_on, over_less, run_falls, run_left_at, waits_still, whole_at}
pub use Rattle.world_rules.specs.World.{attempt_at, ending_at, event_result, operation_at, waits_at, World}
pub use Rattle.std.proofs.KnownBytes.{Appends-kept, Appends-nil, Appends-trans}
pub use Rattle.std.proofs.lemmas.Grind.{common_steps, flat_map-append}
pub use Rattle.std.proofs.lemmas.List.{length-append, take-append-drop, take-replicate, take_more}
pub use Rattle.std.proofs.lemmas.Result.{err_from_is_err_and}
pub use Rattle.std.specs.Io.KnownBytes.{Appends, Keeps}
pub use Rattle.std.specs.Prelude.{codes, flat_map}
