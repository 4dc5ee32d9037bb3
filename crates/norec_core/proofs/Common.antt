-- The names that more than one proof cites, passed on from one place. Declares nothing.
pub use Rattle.itm_model.specs.Machine.{after, after_unless, answer, back, effect, entered, in_shared, irrevocable_from, is_open, keeps_any, keeps_innermost, keeps_revocable, made_irrevocable as made_so, needs_open, or_else, pushed, refusal, reply, reply_unless, rolled_back as plainly_back, source_range, target_range, undone_from, unless}
pub use Rattle.itm_model.specs.State.{Block, State}
pub use Rattle.itm_types.specs.Access.{size_of}
pub use Rattle.itm_types.specs.Calls.{access_of, is_abort, is_begin}
pub use Rattle.itm_types.specs.Memory.{Agrees, bytes_of, IsMemory}
pub use Rattle.itm_types.specs.declared.access.Width.TheVariants.{U1, U2, U8}
pub use Rattle.itm_types.specs.declared.access.WriteHint.TheVariants.{W}
pub use Rattle.itm_types.specs.declared.call.Action.{Action}
pub use Rattle.itm_types.specs.declared.call.Call.{Call}
pub use Rattle.itm_types.specs.declared.call.Call.TheVariants.{Abort, Begin, Commit, CommitAction, Copy, Fill, Log, LogBytes, Mode, Read, Save, UndoAction, Write}
pub use Rattle.itm_types.specs.declared.call.Copying.{Copying}
pub use Rattle.itm_types.specs.declared.call.Props.{Props}
pub use Rattle.itm_types.specs.declared.call.Refusal.{Refusal}
pub use Rattle.itm_types.specs.declared.call.Refusal.TheVariants.{NoAbort, NoIrrevocable, OutOfArena, OutOfRange, Outside, Overlap, TooDeep}
pub use Rattle.itm_types.specs.declared.call.Reply.{Reply as Replied}
pub use Rattle.itm_types.specs.declared.call.Reply.TheVariants.{Bytes, Code, Done, Refused}
pub use Rattle.itm_types.specs.declared.copy.CopyPair.{CopyPair}
pub use Rattle.itm_types.specs.declared.copy.CopyPair.TheVariants.{In, Out, Within}
pub use Rattle.itm_types.specs.declared.copy.SharedSide.TheVariants.{T}
pub use Rattle.itm_types.specs.declared.datum.Datum.{Datum}
pub use Rattle.itm_types.specs.declared.row.LogRow.{LogRow}
pub use Rattle.itm_types.specs.declared.step.Step.{Step}
pub use Rattle.itm_types.specs.declared.step.Step.TheVariants.{Cas, Load, Store}
pub use Rattle.nest_frames.specs.Nest.{actions_back, actions_cancelled, actions_closed, arena_back, begun, closed, Frame, is_kept, log_of, made_irrevocable, reads_of, stays_revocable}
pub use Rattle.norec_core.specs.Accesses.{access_refusal, mode_refusal}
pub use Rattle.norec_core.specs.Aims.{Aim}
pub use Rattle.norec_core.specs.Copies.{arena_refusal, chunks_in, copy_refusal, direction_of, shared_refusal, source_in, source_refusal, source_words, target_refusal, words_read, words_written}
pub use Rattle.norec_core.specs.Core.{begins_anew, came, Core, ended, finished, handed, handed_to, in_transaction, irrevocable_room, is_inside, is_outermost, is_within, may_go, opening, renewed, rolled_back, word_loaded}
pub use Rattle.norec_core.specs.Effects.{actions_after, arena_after, arena_held, blocks_after, recoded, room_left, writes_after}
pub use Rattle.norec_core.specs.Endings.{ending_after, ending_at, EndsSo, IsEnding}
pub use Rattle.norec_core.specs.Held.{answers, leaves, memory_after}
pub use Rattle.norec_core.specs.Order.{asked, asked_from, asked_in, chunk_from, commit_stage, copy_stage, going_stage, load_chunks, log_after, may_restart, placed_in, snapshot_after, stage_after, stage_at, stage_from, tries_after, tries_at}
pub use Rattle.norec_core.specs.OwnAccesses.{gathered_at, gathered_in, got_in, saved_in}
pub use Rattle.norec_core.specs.Phases.{BackLoad, Confirm, Exchange, Fetch, Free, Idle, Phase, Place, RoundBack, RoundEnd, RoundRow, RoundStart, Take}
pub use Rattle.norec_core.specs.Proceeds.{AsksFor, ConflictsIn, Ends, Enters, GoesBack, GoesOver, Got, IsLawful, IsSettled, Joins, most, Proceeds, Replies, RepliesBy, RepliesHeld, RepliesTo, Settles}
pub use Rattle.norec_core.specs.Restarts.{begun_again, IsRestart}
pub use Rattle.norec_core.specs.Rows.{put_all, write_at}
pub use Rattle.norec_core.specs.Stands.{block_kept, block_over, blocks_over, is_some_row, stands_for, state_kept, state_over}
pub use Rattle.norec_core.specs.Undoing.{after_undoing, undone_of}
pub use Rattle.norec_core.specs.declared.answer.Answer.{Answer}
pub use Rattle.norec_core.specs.declared.answer.Answer.TheVariants.{Busy, Committed, Conflict, Full, Reply, Restarted}
pub use Rattle.norec_core.specs.declared.answer.Next.{Next}
pub use Rattle.norec_core.specs.declared.answer.Next.TheVariants.{Answer as Answers, Step as Asks}
pub use Rattle.undo_log.specs.Rollback.{kept_from, kept_of, Old, put_back}
pub use Rattle.user_actions.specs.Actions.{Actions, as_commit, as_undo, committed, cut_back, no_actions, registered, total}
pub use Rattle.word_pieces.specs.Pieces.{count_of, scattered}
pub use Rattle.write_set.specs.Rows.{overlay, put, row, row_with}
pub use Rattle.write_set.specs.declared.row.Row.{Row}
pub use Rattle.std.proofs.lemmas.Bool.{both_ways, cases_Bool, cond-true, cond_both, false_from_ne_true, le-leb, lt-ltb}
pub use Rattle.std.proofs.lemmas.List.{length-map, length-reverse, length-take-le, take-append-drop}
