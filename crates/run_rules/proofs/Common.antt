-- The names that more than one proof cites, passed on from one place. Declares nothing.
pub use Rattle.itm_model.specs.Machine.{after, after_unless, answer, back, back_from, effect, entered, in_arena, irrevocable_from, is_open, keeps_any, keeps_innermost, made_irrevocable, opened, or_else, outside, pushed, refusal, reply, reply_unless, rolled_back, undone, unless}
pub use Rattle.itm_model.specs.Runs.{answers_through, Breaks, gets_through, later, turn}
pub use Rattle.itm_model.specs.State.{Block, Saved, State}
pub use Rattle.itm_types.proofs.KeptBytes.{length-restored, nothing_same}
pub use Rattle.itm_types.specs.Access.{size_of}
pub use Rattle.itm_types.specs.Calls.{abort_of, is_abort, is_begin, is_commit, registered_by}
pub use Rattle.itm_types.specs.KeptBytes.{nothing, restored}
pub use Rattle.itm_types.specs.Memory.{Agrees, bytes_of, IsMemory}
pub use Rattle.itm_types.specs.declared.call.Call.{Call}
pub use Rattle.itm_types.specs.declared.call.Call.TheVariants.{Abort, Begin, Commit, CommitAction, Copy, Fill, Load, Log, LogBytes, Mode, Read, Save, UndoAction, Write}
pub use Rattle.itm_types.specs.declared.call.Props.{Props}
pub use Rattle.itm_types.specs.declared.call.Ran.{Ran}
pub use Rattle.itm_types.specs.declared.call.Refusal.{Refusal}
pub use Rattle.itm_types.specs.declared.call.Refusal.TheVariants.{IsIrrevocable, NoAbort, NoIrrevocable, Outside, TooDeep}
pub use Rattle.itm_types.specs.declared.call.Reply.{Reply}
pub use Rattle.itm_types.specs.declared.call.Reply.TheVariants.{Code, Done, Refused}
pub use Rattle.itm_types.specs.declared.row.LogRow.{LogRow}
pub use Rattle.itm_types.specs.declared.step.Step.{Step}
pub use Rattle.nest_frames.specs.Nest.{actions_cancelled, actions_closed, begun, closed, Frame, logged, renewed as blocks_renewed, stays_revocable}
pub use Rattle.norec_core.proofs.Engines.Blocks.{inside_all, none_inside}
pub use Rattle.norec_core.proofs.Engines.BlocksAgain.{blocks_sized, restart_parts}
pub use Rattle.norec_core.proofs.Engines.HeldStores.{shut_revocable}
pub use Rattle.norec_core.proofs.Engines.IrrevocableCalls.{begin_enters, begin_served as accepted, length-over, mode_enters, revocable_over}
pub use Rattle.norec_core.proofs.Engines.Machines.{commits, open_is}
pub use Rattle.norec_core.proofs.Engines.RestartingCalls.{ahead_revocable, idle_so}
pub use Rattle.norec_core.proofs.Logs.{agrees_less}
pub use Rattle.norec_core.proofs.Replies.ActionCounts.{all_run, cancel_runs, given_up_actions, LeavesActions, registers, RunsOn, undone_actions}
pub use Rattle.norec_core.proofs.Replies.AnsweredEngines.{rests, told_plainly}
pub use Rattle.norec_core.proofs.Replies.ReplyCases.{replied_so, reply_cases}
pub use Rattle.norec_core.specs.Core.{came, Core, handed_to, in_transaction, irrevocable_room, is_inside, is_within, may_go, renewed}
pub use Rattle.norec_core.specs.Effects.{actions_after, arena_after, blocks_after, recoded, room_left}
pub use Rattle.norec_core.specs.Order.{asked, asked_from, stage_at}
pub use Rattle.norec_core.specs.Phases.{Idle, Phase}
pub use Rattle.norec_core.specs.Proceeds.{AreRead, AsksFor, backed, ConflictsIn, Ends, Enters, IsAtOnce, IsBegin, IsSettled, MayStarve, MayStarveHeld, MayStarveIn, MayStarveOpen, Proceeds, Replies, RepliesHeld, reply_held, WantsClock}
pub use Rattle.norec_core.specs.RestartingCalls.{arena_ahead, can_restart, may_validate}
pub use Rattle.norec_core.specs.Restarts.{begun_again, IsRestart, Restarts}
pub use Rattle.norec_core.specs.Stands.{block_kept, is_some_row, stands_for, state_in, state_kept, state_over}
pub use Rattle.norec_core.specs.declared.answer.Answer.{Answer}
pub use Rattle.norec_core.specs.declared.answer.Answer.TheVariants.{Busy, Committed, Conflict, Full, Reply as Replied, Restarted}
pub use Rattle.norec_core.specs.declared.answer.Next.{Next}
pub use Rattle.norec_core.specs.declared.answer.Next.TheVariants.{Answer as Answers, Step as Asks}
pub use Rattle.tx_attempts.proofs.AloneCalls.{alone_snoc, begins_alone, breaks_after, gets_none, player_snoc}
pub use Rattle.tx_attempts.proofs.CutRecords.{again_cut, at_each_also, at_each_before, at_each_both}
pub use Rattle.tx_attempts.proofs.RunsAgain.{again_more, alike_before, all_before, all_more, alone_alike, alone_start, AreAlike, state_again, state_again_in, state_alike, state_more, state_more_in}
pub use Rattle.tx_attempts.proofs.ToldRuns.{Adds, adds_after, adds_given_up, opened_told, reply_told, telling, told_alone, told_state}
pub use Rattle.tx_attempts.proofs.UndoneCounts.{before_no_more, undone_both}
pub use Rattle.tx_attempts.specs.Alone.{IsAlone, player_then, state_then}
pub use Rattle.tx_attempts.specs.Kept.{grown, Kept}
pub use Rattle.tx_attempts.specs.Opacity.{after_try, AreRestarts, begin_code, Beginning, Between, EndsAs, follows, IsTryAt, LacksClock, ran_of, stays_outside, takes_clock}
pub use Rattle.tx_attempts.specs.Restarts.{AreAgain, arena_set, AtEach, before as earlier, breaks_in, breaks_of, count_undone, IsInnerBegin, open_after, open_by, open_from, open_in, ran_on, run_on, with_again}
pub use Rattle.tx_attempts.specs.declared.attempt.Again.{Again}
pub use Rattle.tx_attempts.specs.declared.attempt.Attempt.{Attempt}
pub use Rattle.tx_attempts.specs.declared.attempt.CallRecord.{CallRecord}
pub use Rattle.tx_attempts.specs.declared.attempt.Outcome.{Outcome}
pub use Rattle.tx_player.specs.Depth.{depth_after, depth_by, is_code, opens}
pub use Rattle.tx_player.specs.Rules.{Obeys, Rules}
pub use Rattle.tx_runs.proofs.OpenRooms.{none_asked, promised_held, promised_none}
pub use Rattle.tx_runs.specs.Answers.{AnswerFits, LeavesRestarts}
pub use Rattle.tx_runs.specs.CallRooms.{counted, goes_in, HasRoomIn, is_held, may_go_back, wanted}
pub use Rattle.tx_runs.specs.Nesting.{HasBlocks, IsBlock, IsDeep, IsNested, whole}
pub use Rattle.tx_runs.specs.OpenAttempts.{BeganBy, IsBacked, LacksPlaces, MayRenew, Open, promised, told_in}
pub use Rattle.tx_runs.specs.OpenBegins.{IsAt, Knows}
pub use Rattle.tx_runs.specs.OpenTries.{AreAlone, Bounds, bounds_now, bounds_of, entered_by, HasBegun, HaveBegun, IsOpenTry, ReadsFrom, state_under, StaysRevocable, told_then, whole_then}
pub use Rattle.tx_runs.specs.Outcomes.{is_done}
pub use Rattle.tx_runs.specs.Ranks.{Falls, restarts_left}
pub use Rattle.tx_runs.specs.Runs.{begins_at, IsOfBlock}
pub use Rattle.tx_runs.specs.Savepoints.{again_of, cut_back, cut_to, due_at, savepoints_after}
pub use Rattle.tx_runs.specs.Tallies.{begins, over_as, Stage, Stand, stand_of, Taken, Tally, took_in, with_call, within}
pub use Rattle.tx_runs.specs.declared.savepoint.Savepoint.{Savepoint}
pub use Rattle.undo_log.specs.Rollback.{found, kept_of, Old, put_back}
pub use Rattle.user_actions.specs.Actions.{Actions, as_undo, no_actions, registered, total}
pub use Rattle.write_set.specs.declared.row.Row.{Row}
pub use Rattle.std.proofs.Math.Nat.{mul-le-mul_right}
pub use Rattle.std.proofs.Math.Seq.{drop-append_seam, take-append_seam, take-length}
pub use Rattle.std.proofs.lemmas.Bool.{and_parts, cases_Bool, cond-true, cond_both, false_from_ne_true, le-ltb, lt-ltb, ltb-false, ltb-true, ne_eqb, not-true}
pub use Rattle.std.proofs.lemmas.List.{drop-append-le, length-append, length-drop, length-map, length-take, length-take-le, map-append, take-append-drop, take-append-le, take-take}
