-- The names that more than one proof cites, passed on from one place. Declares nothing.
pub use Rattle.access_rules.proofs.Readings.{IsAmong, passed_on, words_in-at}
pub use Rattle.itm_model.specs.Machine.{after, after_unless, answer, back, effect, logged as logs, logged_in, needs_open, or_else, refusal, reply, reply_unless, undone, undone_from, unless}
pub use Rattle.itm_model.specs.State.{Block, State}
pub use Rattle.itm_types.specs.Access.{size_of}
pub use Rattle.itm_types.specs.Calls.{access_of, logged_of, registered_by}
pub use Rattle.itm_types.specs.KeptBytes.{also_kept, restored}
pub use Rattle.itm_types.specs.Memory.{bytes_of, IsMemory}
pub use Rattle.itm_types.specs.Slices.{slice, with_slice}
pub use Rattle.itm_types.specs.declared.call.Action.{Action}
pub use Rattle.itm_types.specs.declared.call.ActionKind.{ActionKind}
pub use Rattle.itm_types.specs.declared.call.Call.{Call}
pub use Rattle.itm_types.specs.declared.call.Call.TheVariants.{Abort, CommitAction, Fill, InTransaction, Log, LogBytes, Read, Save, UndoAction, Write}
pub use Rattle.itm_types.specs.declared.call.Copying.{Copying}
pub use Rattle.itm_types.specs.declared.call.Refusal.{Refusal}
pub use Rattle.itm_types.specs.declared.call.Refusal.TheVariants.{NoAbort, OutOfArena, OutOfRange, Outside}
pub use Rattle.itm_types.specs.declared.call.Reply.TheVariants.{Code, Done, Refused}
pub use Rattle.itm_types.specs.declared.copy.CopyPair.{CopyPair}
pub use Rattle.itm_types.specs.declared.copy.CopyPair.TheVariants.{In, Out, Within}
pub use Rattle.itm_types.specs.declared.row.LogRow.{LogRow}
pub use Rattle.nest_frames.specs.Nest.{actions_back, actions_cancelled, arena_back, arena_restored, begun, closed, Frame, is_kept, log_of, logged, Nest, reads_of, renewed, rows_of}
pub use Rattle.norec_core.proofs.Engines.Blocks.{blocks_over-same, kept_over, none_inside}
pub use Rattle.norec_core.proofs.Engines.Machines.{access_refused, open_is, refuses}
pub use Rattle.norec_core.specs.Accesses.{access_refusal, passed, passed_for, total}
pub use Rattle.norec_core.specs.Copies.{chunks_in, copy_refusal, direction_of, is_out, source_in, source_refusal, target_refusal, WritesShared}
pub use Rattle.norec_core.specs.Core.{begins_anew, came, Core, ended, in_transaction, is_inside, is_outermost, rolled_back}
pub use Rattle.norec_core.specs.Effects.{actions_after, arena_after, arena_copied, blocks_after, room_left, writes_after, writes_copied}
pub use Rattle.norec_core.specs.Order.{chunk_reading, stage_at}
pub use Rattle.norec_core.specs.Phases.{Idle, Load, Phase}
pub use Rattle.norec_core.specs.Proceeds.{AreRead, ConflictsIn, IsUndone, MayStarve, Replies}
pub use Rattle.norec_core.specs.Rows.{AllWritesWithin, put_range, range_pieces, reserved_all, value_into}
pub use Rattle.norec_core.specs.Stands.{block_over, blocks_over, is_some_row, stands_for, state_in, state_over}
pub use Rattle.norec_core.specs.declared.call_parts.Taking.{Taking}
pub use Rattle.norec_data.proofs.EndedTransactions.{core_ended}
pub use Rattle.norec_data.specs.Turns.{core_after, IsEnded, Stays, TurnEndsSo, Turns}
pub use Rattle.norec_data.specs.View.{aim_for, core, holds_of, in_block, phase_of, writes_of}
pub use Rattle.norec_data.specs.declared.data.Data.{Data}
pub use Rattle.norec_data.specs.declared.turn.Turn.TheVariants.{End, Wait}
pub use Rattle.norec_turns.specs.Between.{between, IsSoundTurn, MayCopy}
pub use Rattle.norec_turns.specs.InPhases.{Aims, AreFrames, FitsPurpose, InPhase, IsFor, IsMissing, IsOpen, IsReading, IsSound, MayLog, MayPutFor, MayRead, reserved_for, round_of, Wants}
pub use Rattle.norec_turns.specs.OpenBegins.{AreBegun, HasBegun}
pub use Rattle.undo_log.specs.Rollback.{found, kept_of, Old, put_back}
pub use Rattle.user_actions.specs.Actions.{Actions, cut_back, no_actions, registered, room_after}
pub use Rattle.write_set.specs.Marks.{MayPut, Written}
pub use Rattle.write_set.specs.Rows.{AreRows, overlay}
pub use Rattle.write_set.specs.declared.row.Row.{Row}
pub use Rattle.std.proofs.lemmas.Bool.{cases_Bool, le-leb, leb-true}
pub use Rattle.std.proofs.lemmas.List.{drop_all, length-replicate, length-take-le}
