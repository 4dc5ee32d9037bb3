-- The names that more than one proof cites, passed on from one place. Declares nothing.
pub use Rattle.call_rules.proofs.LaterViews.{went_on, went_self}
pub use Rattle.call_rules.proofs.Steps.CallsInHand.{both, is_memory, IsMid}
pub use Rattle.call_rules.specs.CallResults.{IsAnswered, IsThreadStarved}
pub use Rattle.call_rules.specs.Served.{came_over, IsUndone, left_over, Meets, memory_in, mine_after, mine_if, Served, Start, Went}
pub use Rattle.call_rules.specs.Standing.{Standing, start_of}
pub use Rattle.call_rules.specs.Ties.{memory_of, Stands}
pub use Rattle.itm_model.specs.Machine.{after, after_unless, is_open, opened, outside as alone_outside, refusal, reply, undone}
pub use Rattle.itm_model.specs.State.{Block, State}
pub use Rattle.itm_types.specs.Calls.{is_abort, is_begin}
pub use Rattle.itm_types.specs.Memory.{Agrees, bytes_of, IsMemory}
pub use Rattle.itm_types.specs.declared.call.Call.{Call}
pub use Rattle.itm_types.specs.declared.call.Call.TheVariants.{Abort, Begin, Commit, Mode}
pub use Rattle.itm_types.specs.declared.call.Props.{Props}
pub use Rattle.itm_types.specs.declared.call.Ran.{Ran}
pub use Rattle.itm_types.specs.declared.call.Reply.{Reply as Replied}
pub use Rattle.itm_types.specs.declared.row.LogRow.{LogRow}
pub use Rattle.nest_frames.specs.Nest.{Frame, stays_revocable}
pub use Rattle.norec_core.proofs.Engines.Blocks.{none_inside}
pub use Rattle.norec_core.proofs.Engines.HeldStores.{shut_revocable}
pub use Rattle.norec_core.proofs.Engines.KeptFields.{came_restarted, handed_is, IsHanded}
pub use Rattle.norec_core.proofs.Replies.ActionCounts.{all_run, given_up_actions, registers, RunsOn}
pub use Rattle.norec_core.proofs.Replies.AnsweredEngines.{rests, runs_on, told_plainly}
pub use Rattle.norec_core.proofs.Replies.ReplyCases.{reply_cases, Ways}
pub use Rattle.norec_core.specs.Core.{came, Core, handed_to, in_transaction, irrevocable_room, is_inside, is_within, may_go, rolled_back}
pub use Rattle.norec_core.specs.Phases.{Idle}
pub use Rattle.norec_core.specs.Proceeds.{AreRead, Ends, IsSettled, MayStarve, Proceeds, WantsClock}
pub use Rattle.norec_core.specs.RestartingCalls.{arena_ahead, can_restart}
pub use Rattle.norec_core.specs.Restarts.{IsRestart}
pub use Rattle.norec_core.specs.Stands.{stands_for, state_in, state_over}
pub use Rattle.norec_core.specs.Undoing.{after_undoing, undone_of}
pub use Rattle.norec_core.specs.declared.answer.Answer.{Answer}
pub use Rattle.norec_core.specs.declared.answer.Answer.TheVariants.{Busy, Committed, Conflict, Full, Reply, Restarted}
pub use Rattle.norec_core.specs.declared.answer.Next.TheVariants.{Answer as Answers, Step as Asks}
pub use Rattle.run_rules.proofs.EngineAnswers.{answer_fits}
pub use Rattle.run_rules.proofs.EngineDepths.{deep_of, was_open}
pub use Rattle.run_rules.proofs.EngineReplies.{cancels as cancels_by, commit_reply, plain_reply}
pub use Rattle.run_rules.proofs.HeldRooms.{came_room, held_as, leaves_room, LeavesRoom, left_in_room, same_room}
pub use Rattle.run_rules.proofs.OutermostBegins.{begin_entered, call_begins, served_outside}
pub use Rattle.run_rules.proofs.RestartedEngines.{began_later, is_back, leaves_left, left_same, renew_room, restarts_by}
pub use Rattle.run_rules.proofs.StepCalls.{cancels_register_none, places_for, starves_shut}
pub use Rattle.run_rules.proofs.Tries.{alone_led, closing_after, closing_left, IsMadeAlone, lacks_clock, try_closes, try_of_room, try_stops}
pub use Rattle.run_rules.proofs.TriesBack.{back_on, began_now, is_cut}
pub use Rattle.run_rules.proofs.TriesTold.{closes_as, made_alone, ran_closes, ran_stays, ran_stops, reply_as, stops_as, told_so}
pub use Rattle.shared_words.specs.InGlobal.{Words}
pub use Rattle.shared_words.specs.Passes.{cells_of, commits_known, IsOver, Owns, view_of}
pub use Rattle.shared_words.specs.declared.view.View.{View}
pub use Rattle.tx_attempts.proofs.LaterClocks.{outrun_later, outrun_more, outrun_none}
pub use Rattle.tx_attempts.proofs.ToldRuns.{telling}
pub use Rattle.tx_attempts.specs.Attempts.{alone, ClosedBy, is_committed}
pub use Rattle.tx_attempts.specs.Kept.{reserved, spent}
pub use Rattle.tx_attempts.specs.Opacity.{after_try, answered_all, begin_code, begin_within, Between, EndsAs, IsTryAt, LacksClock, ran_of, stays_outside, takes_clock}
pub use Rattle.tx_attempts.specs.Restarts.{breaks_of, ran_on}
pub use Rattle.tx_attempts.specs.declared.attempt.Attempt.{Attempt}
pub use Rattle.tx_attempts.specs.declared.attempt.Outcome.{Outcome}
pub use Rattle.tx_player.specs.Rules.{Obeys, Rules}
pub use Rattle.tx_runs.proofs.Begins.{before_led, before_past, before_same, begin_here}
pub use Rattle.tx_runs.proofs.OpenRooms.{opens_most, reserved_least, reserved_most}
pub use Rattle.tx_runs.proofs.TookIn.{is_taken, OpensBy, outcome_by, tried_as, within_untold}
pub use Rattle.tx_runs.specs.Answers.{AnswerFits, LeavesRestarts}
pub use Rattle.tx_runs.specs.CallRooms.{counted, HasRoomIn, is_held, wanted}
pub use Rattle.tx_runs.specs.Nesting.{IsDeep, IsNested, whole}
pub use Rattle.tx_runs.specs.OpenAttempts.{BeganBy, HasRoom, IsBacked, MayRenew, Open, promised, told_in}
pub use Rattle.tx_runs.specs.OpenTries.{Bounds as Most, bounds_now, entered_by, HaveBegun, IsOpenTry, ReadsFrom, whole_then}
pub use Rattle.tx_runs.specs.Outcomes.{is_done}
pub use Rattle.tx_runs.specs.PlayerRuns.{KeepsPlaces, MayGoBack, MayStop, MayTakeIn, MayTell, stage_of, tally_of}
pub use Rattle.tx_runs.specs.Ranks.{Falls, restarts_left}
pub use Rattle.tx_runs.specs.Runs.{begins_at, IsBefore}
pub use Rattle.tx_runs.specs.Savepoints.{cut_back, savepoints_after}
pub use Rattle.tx_runs.specs.Tallies.{begins, begins_again, begun, entered, outside, over_as, Stage, stage_at, Stand, stand_of, Taken, Tally, took_in, with_call, within}
pub use Rattle.tx_runs.specs.declared.ending.End.{End}
pub use Rattle.tx_runs.specs.Currents.{Current, Begins, Outside, Within}
pub use Rattle.tx_runs.specs.declared.savepoint.Savepoint.{Savepoint}
pub use Rattle.user_actions.specs.Actions.{Actions, total}
pub use Rattle.worker_rules.specs.Accounts.{Account, account_after, account_of, first_account, tally_in, told}
pub use Rattle.worker_rules.specs.Calls.{asked, IsMade, IsStarved, StopsAs, StopsAt}
pub use Rattle.worker_rules.specs.Positions.{AreFew, AreLeft, AreOver, AreOwn, AreSince, bytes_at, IsLeft, known_after, known_by, positions}
pub use Rattle.worker_rules.specs.Progress.{Course, HasRun, IsInside, IsOutside, IsRunning, IsTry, MayRead, now_at, stood}
pub use Rattle.worker_rules.specs.Worker.{Worker}
pub use Rattle.worker_rules.specs.Workers.{again_for, Bounds, bounds_of, GoesOnOrStops, GoesOnOrStopsAt, HasActionPlaces, HasBlockPlaces, HasPlaces, IsAsked, IsHungry, IsPrepared, IsPromised, IsReadyFor, IsRoomier, IsSame, IsStopped, IsToldBy, IsUnprepared, IsWorking, KeepsBlockPlaces, LacksFor, view_in}
pub use Rattle.worker_rules.specs.Works.{AreHeld, course_of, EndsOpen, IsBack, IsFinished, Parts, view_left}
pub use Rattle.std.proofs.lemmas.Bool.{false_from_ne_true, lt-ltb, ltb-true}
