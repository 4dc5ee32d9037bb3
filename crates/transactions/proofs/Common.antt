-- The names that more than one proof cites, passed on from one place. Declares nothing.
pub use Rattle.call_rules.proofs.LaterViews.{went_on, went_self}
pub use Rattle.call_rules.proofs.Steps.CallsInHand.{is_memory}
pub use Rattle.call_rules.specs.CallResults.{IsAnswered, Tells}
pub use Rattle.call_rules.specs.Served.{came_over, left_over, memory_in, mine_after, mine_if, Served, Start, Went}
pub use Rattle.call_rules.specs.Standing.{Standing, start_of}
pub use Rattle.call_rules.specs.Ties.{memory_of, Stands}
pub use Rattle.itm_model.specs.Machine.{abort_for, after, after_unless, answer, back, back_from, bytes_reply, closed_actions, closed_in, closed_irrevocable, effect, entered, irrevocable_from, is_clear, is_open, keeps_innermost, made_irrevocable, opened, or_else, outside, pushed, refusal, reply, reply_unless, rolled_back, source_bytes, source_range, standing, target_range, target_written, undone, undone_from, unless, with_action}
pub use Rattle.itm_model.specs.Runs.{replies, state_after}
pub use Rattle.itm_model.specs.State.{Block, Saved, State}
pub use Rattle.itm_runtime.proofs.GoingOn.{NoCommit, on_answer, on_reply, unrefused}
pub use Rattle.itm_runtime.proofs.NumberAnswers.{read_sized, told_of}
pub use Rattle.itm_runtime.specs.Stops.{answer_of, answer_to_read, answer_to_write, GoesOn, number}
pub use Rattle.itm_runtime.specs.declared.stop.Stop.{Stop}
pub use Rattle.itm_types.proofs.SameDatum.{same_datum}
pub use Rattle.itm_types.specs.Memory.{Agrees, bytes_of, IsMemory}
pub use Rattle.itm_types.specs.declared.access.ReadHint.TheVariants.{R}
pub use Rattle.itm_types.specs.declared.access.Width.TheVariants.{U1, U2, U4, U8}
pub use Rattle.itm_types.specs.declared.access.WriteHint.TheVariants.{W}
pub use Rattle.itm_types.specs.declared.call.Action.{Action}
pub use Rattle.itm_types.specs.declared.call.Call.{Call}
pub use Rattle.itm_types.specs.declared.call.Call.TheVariants.{Abort, Begin, Commit, CommitAction, Copy, Fill, InTransaction, Load, Log, LogBytes, Mode, Read, Save, UndoAction, Write}
pub use Rattle.itm_types.specs.declared.call.Props.{Props}
pub use Rattle.itm_types.specs.declared.call.Ran.{Ran}
pub use Rattle.itm_types.specs.declared.call.Refusal.{Refusal}
pub use Rattle.itm_types.specs.declared.call.Refusal.TheVariants.{IsIrrevocable, NoAbort, Outside, Overlap}
pub use Rattle.itm_types.specs.declared.call.Reply.{Reply as Replied}
pub use Rattle.itm_types.specs.declared.call.Reply.TheVariants.{Bytes, Code, Done, Refused}
pub use Rattle.itm_types.specs.declared.copy.CopyPair.{CopyPair}
pub use Rattle.itm_types.specs.declared.copy.CopyPair.TheVariants.{In, Out, Within}
pub use Rattle.itm_types.specs.declared.datum.Datum.{Datum}
pub use Rattle.itm_types.specs.declared.row.LogRow.{LogRow}
pub use Rattle.nest_frames.specs.Nest.{actions_cancelled, actions_closed, begun, closed, Frame, log_of, reads_of, renewed, rows_of}
pub use Rattle.norec_core.proofs.Engines.KeptFields.{handed_is, keeps_asked, keeps_self, keeps_twice}
pub use Rattle.norec_core.proofs.Engines.Machines.{open_is, or_true}
pub use Rattle.norec_core.specs.Core.{came, Core, handed_to, in_transaction, irrevocable_room, is_inside}
pub use Rattle.norec_core.specs.Effects.{actions_after, arena_after, blocks_after, recoded, writes_after}
pub use Rattle.norec_core.specs.Order.{asked_from, stage_at}
pub use Rattle.norec_core.specs.Phases.{Idle, Phase}
pub use Rattle.norec_core.specs.Proceeds.{Ends, GoesOver, Proceeds, Replies, StaysOn}
pub use Rattle.norec_core.specs.Stands.{stands_for, state_in, state_over}
pub use Rattle.norec_core.specs.declared.answer.Answer.{Answer}
pub use Rattle.norec_core.specs.declared.answer.Answer.TheVariants.{Busy, Committed, Full, Reply, Restarted}
pub use Rattle.shared_words.specs.Commits.{StartsWith}
pub use Rattle.shared_words.specs.InGlobal.{Words}
pub use Rattle.shared_words.specs.Passes.{cells_of, Owns, view_of}
pub use Rattle.shared_words.specs.declared.pass.Pass.{Pass}
pub use Rattle.shared_words.specs.declared.view.View.{View}
pub use Rattle.transactions.specs.Blocks.{AreRunAgain, block_told, CameToRun, EndsBlockBy, EndsRuns, Enters, EntersNot, HasGoneBack, HasRunBlock, IsAsBefore, IsFresh, IsTakenBack, IsToldAgain, IsUndoneUnless, IsWithin, IsWithinStill, KeepsBlocks, Leaves, ReadsOn, StaysWithin, TellsBlock}
pub use Rattle.transactions.specs.Folds.{Folds, HasFolded, KeepsWords, Steps}
pub use Rattle.transactions.specs.Lent.{IsKept, IsLeft, Lent, looks_of, mine_of, seen_of}
pub use Rattle.transactions.specs.Plain.{begun_at, block_of, Calls, calls_of, cancelled_of, Cancellings, committed_at, Deed, IsLastRun, IsPlain, IsPlainBack, IsPlainBackIn, IsPlainBlock, IsPlainIn, IsPlainRun, Makes, Makings, replies_of, state_with, Stays, TakesBack, with_gone}
pub use Rattle.transactions.specs.Runs.{BeginTold, cancel_told, ComesTo, commit_told, EndsBy, HasBegun, HasEnded, HasLooked, IsCancelled, IsGivenUp, IsTry, KeepsBody, KeepsLent, LeavesLent, LeftBy, mine_left, mine_then, stop_told, usual}
pub use Rattle.transactions.specs.Tries.{AfterCancelled, AfterTries, again_after, AreCancelled, AreTries, ComesAgain, EndsTries, HasRetried, HasTried}
pub use Rattle.transactions.specs.Widths.{HasValue, number_16, number_32, number_8}
pub use Rattle.transactions.specs.declared.failed.Failed.{Failed}
pub use Rattle.transactions.specs.declared.stopped.Stopped.{Stopped}
pub use Rattle.transactions.specs.declared.stopped.Stopped.TheVariants.{Cancelled, Engine}
pub use Rattle.transactions.specs.declared.tried.Done.{Done as Value}
pub use Rattle.transactions.specs.declared.tried.Tried.{Tried}
pub use Rattle.transactions.specs.declared.tried.Tried.TheVariants.{Conflict, Failed as Fails}
pub use Rattle.undo_log.specs.Rollback.{Old, put_back}
pub use Rattle.user_actions.specs.Actions.{Actions, as_commit, as_undo, registered}
pub use Rattle.std.specs.Borrow.{MutBor}
pub use Rattle.std.specs.Fn.{CalledAtMut, Mut}
