-- The names that more than one proof cites, passed on from one place. Declares nothing.
pub use Rattle.script_program.specs.declared.schedule.Item.{Item}
pub use Rattle.script_program.specs.declared.schedule.Item.TheVariants.{Take}
pub use Rattle.step_picture.specs.Gathered.{Gathered, Stopped}
unfoldable pub use Rattle.step_picture.specs.Picture.{back_text, bar_front, clock_text, ended_bar, event_front, mark_in}
pub use Rattle.step_picture.specs.Picture.{bar_text, event_text, mark_at}
pub use Rattle.step_picture.specs.Walks.{back_by, back_in, begun_in, calls_of, known_in, look_of, or_else}
pub use Rattle.step_picture.specs.declared.mark.Mark.{Mark}
pub use Rattle.step_table.proofs.EventRows.{is_row, less_first}
pub use Rattle.step_table.proofs.RowLists.{both_many, both_of, none_of, schedule_begun, schedule_more, schedule_none}
pub use Rattle.step_table.proofs.ShownRows.{puts_then}
pub use Rattle.step_table.proofs.Texts.{puts_cut, three, three_cut_first, three_cut_second, two_cut_first}
pub use Rattle.step_table.specs.Rows.{ItemFirst, ItemRows, Row, RowsOf, ScheduleFirst, ScheduleRows, SoMany}
pub use Rattle.step_table.specs.Table.{shows}
pub use Rattle.tx_history.proofs.TextPieces.{put_as}
pub use Rattle.world_rules.proofs.Events.WorldEvents.{call_falls, call_left_at, leaves_on, LeavesLessSoFar, LeavesNoMore, no_more_first, no_more_on, over_less, run_falls, run_left_at, waits_still, whole_at}
pub use Rattle.world_rules.specs.World.{waits_at, World}
pub use Rattle.std.proofs.KnownBytes.{Appends-nil}
pub use Rattle.std.proofs.lemmas.Grind.{common_steps, flat_map-append}
pub use Rattle.std.proofs.lemmas.Result.{err_from_is_err_and}
