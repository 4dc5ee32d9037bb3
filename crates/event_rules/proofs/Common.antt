-- The names that more than one proof cites, passed on from one place. Declares nothing.
pub use Rattle.event_rules.specs.Invariant.{AreRunning, IsDatedActor, IsDatedWorld, IsTry, IsWorld}
pub use Rattle.event_rules.specs.Moments.{HasStepped, HasWorked}
pub use Rattle.itm_model.specs.Machine.{after, is_open, opened, reply as plainly, undone}
pub use Rattle.itm_model.specs.State.{State}
pub use Rattle.itm_types.proofs.WordLists.{words_of-bytes_of}
pub use Rattle.itm_types.proofs.Words.{length-bytes_of, slice_get-set_other, slice_get-set_same}
pub use Rattle.itm_types.specs.Calls.{abort_of, is_abort, is_begin, is_commit, registered_by}
pub use Rattle.itm_types.specs.Memory.{Agrees, AllFit, bytes_of, IsMemory, words_of}
pub use Rattle.itm_types.specs.declared.call.Call.{Call}
pub use Rattle.itm_types.specs.declared.call.Call.TheVariants.{Begin, Commit, Mode}
pub use Rattle.itm_types.specs.declared.call.Props.{Props}
pub use Rattle.itm_types.specs.declared.call.Ran.{Ran}
pub use Rattle.itm_types.specs.declared.call.Reply.{Reply as Replied}
pub use Rattle.itm_types.specs.declared.call.Reply.TheVariants.{Code, Done}
pub use Rattle.itm_types.specs.declared.limits.Limits.{Limits}
pub use Rattle.itm_types.specs.declared.limits.TheConstants.{MAX_ACTORS, MAX_COMMITS}
pub use Rattle.itm_types.specs.declared.row.LogRow.{LogRow}
pub use Rattle.itm_types.specs.declared.step.Step.{Step}
pub use Rattle.itm_types.specs.declared.step.Step.TheVariants.{Cas, Load, Store}
pub use Rattle.norec_core.proofs.Engines.Blocks.{none_inside}
pub use Rattle.norec_core.proofs.Engines.HeldStores.{got_handed as got_stored, got_now, got_or, IsLoaded, none_got, shut_revocable}
pub use Rattle.norec_core.proofs.Engines.KeptFields.{came_restarted, handed_is, IsHanded, most_same}
pub use Rattle.norec_core.proofs.Replies.AnsweredEngines.{frees, replied_outside, rests, runs_on, told_plainly}
pub use Rattle.norec_core.proofs.Replies.ReplyCases.{reply_cases, Ways}
pub use Rattle.norec_core.specs.Core.{came, Core, handed_to, in_transaction, irrevocable_room, is_inside, may_go, opening, rolled_back, word_loaded}
pub use Rattle.norec_core.specs.Held.{answers, ComesTo, IsFound, memory_after}
pub use Rattle.norec_core.specs.Moves.{IsResumed}
pub use Rattle.norec_core.specs.Order.{asked, asked_from, asked_in, snapshot_from, stage_after, stage_at, stage_from}
pub use Rattle.norec_core.specs.Phases.{Idle, Phase}
pub use Rattle.norec_core.specs.Proceeds.{AreRead, AsksFor, backed, Conflicts, ConflictsIn, Ends, Enters, GoesBack, Got, IsAtOnce, IsBegin, IsLawful, IsLost, IsSettled, IsWithin, Joins, most, Proceeds, Replies, Settles, StaysOn, WantsClock}
pub use Rattle.norec_core.specs.Restarts.{IsRestart}
pub use Rattle.norec_core.specs.Rows.{IsLog, write_at}
pub use Rattle.norec_core.specs.Stands.{stands_for, state_in}
pub use Rattle.norec_core.specs.Undoing.{after_undoing}
pub use Rattle.norec_core.specs.declared.answer.Answer.{Answer}
pub use Rattle.norec_core.specs.declared.answer.Answer.TheVariants.{Busy, Committed, Conflict, Full, Reply, Restarted}
pub use Rattle.norec_core.specs.declared.answer.Next.{Next}
pub use Rattle.norec_core.specs.declared.answer.Next.TheVariants.{Answer as Answers, Step as Asks}
pub use Rattle.run_rules.proofs.CallRooms.{leaves_backed, promised_same, wanted_as, wanted_came, wanted_same}
pub use Rattle.run_rules.proofs.EngineDepths.{deep_of, was_open}
pub use Rattle.run_rules.proofs.EngineReplies.{cancelled, cancels, commit_reply, engine_may, plain_reply}
pub use Rattle.run_rules.proofs.EngineStates.{stands_actions, stands_arena, stands_mode, stands_open}
pub use Rattle.run_rules.proofs.HeldRooms.{leaves_room, LeavesRoom, left_in_room, none_held, same_room}
pub use Rattle.run_rules.proofs.OpenCounts.{cut_told, due_told, open_deep, told_on}
pub use Rattle.run_rules.proofs.OutermostBegins.{begin_entered, begin_goes, begin_opens, call_begins, may_begin, served_may, served_outside}
pub use Rattle.run_rules.proofs.RestartedEngines.{is_back, IsBack, leaves_left, left_same, may_same, not_at_once, renew_room, restarted_more, revocable_back}
pub use Rattle.run_rules.proofs.Tries.{alone_led, begin_call, by_wrote, closing_after, closing_left, IsMadeAlone, lacks_clock, not_closed, try_closes, try_of_room, try_stops}
pub use Rattle.run_rules.proofs.TriesStep.{asks_on, came_on, handed_on, positioned_on}
pub use Rattle.run_rules.proofs.TriesTold.{agree_reads, closes_as, made_alone, open_so, ran_stops, reply_as, stays_as, stops_as}
pub use Rattle.tx_attempts.proofs.LaterClocks.{outrun_both as both_outrun, outrun_later, outrun_more, outrun_none}
pub use Rattle.tx_attempts.specs.Alone.{state_then}
pub use Rattle.tx_attempts.specs.Attempts.{alone, alone_whole, ClosedBy, committed_at, is_at, is_committed, memory_left, of_thread}
pub use Rattle.tx_attempts.specs.Counts.{count_at, count_committed, one_where}
pub use Rattle.tx_attempts.specs.Kept.{Kept, reserved, spent}
pub use Rattle.tx_attempts.specs.Opacity.{after_try, answered_all, begin_code, Between, EndsAs, IsRunOf, IsTryAt, LacksClock, ran_of, takes_clock}
pub use Rattle.tx_attempts.specs.Outrun.{AreOutrun}
pub use Rattle.tx_attempts.specs.Restarts.{before as earlier, breaks_of, count_undone, open_after, open_in as open_calls, ran_on}
pub use Rattle.tx_attempts.specs.declared.attempt.Attempt.{Attempt}
pub use Rattle.tx_attempts.specs.declared.attempt.CallRecord.{CallRecord}
pub use Rattle.tx_attempts.specs.declared.attempt.Outcome.{Outcome}
pub use Rattle.tx_attempts.specs.declared.attempt.Outcome.TheVariants.{Unfinished}
pub use Rattle.tx_player.specs.Depth.{depth_after, depth_by}
pub use Rattle.tx_player.specs.Rules.{Obeys, Rules}
pub use Rattle.tx_runs.proofs.Begins.{before_led, before_past, before_same, begin_here}
pub use Rattle.tx_runs.proofs.OpenRooms.{opens_most, reserved_least, reserved_more}
pub use Rattle.tx_runs.proofs.RunLists.{of_thread_more, of_thread_own, run_still, run_with, there_is}
pub use Rattle.tx_runs.proofs.TookIn.{OpensBy}
pub use Rattle.tx_runs.specs.Answers.{AnswerFits, LeavesRestarts}
pub use Rattle.tx_runs.specs.CallRooms.{counted, is_held, may_go_back, wanted}
pub use Rattle.tx_runs.specs.Nesting.{IsDeep, IsNested, whole}
pub use Rattle.tx_runs.specs.OpenAttempts.{BeganBy, promised, told_in}
pub use Rattle.tx_runs.specs.OpenTries.{IsOpenTry, ReadsFrom, whole_then}
pub use Rattle.tx_runs.specs.Outcomes.{is_done}
pub use Rattle.tx_runs.specs.PlayerRuns.{KeepsPlaces, MayGoBack, MayTakeIn, stage_of, tally_of}
pub use Rattle.tx_runs.specs.Ranks.{rank as rank_of, restarts_left}
pub use Rattle.tx_runs.specs.Restarts.{RestartAtMost}
pub use Rattle.tx_runs.specs.Runs.{begins_at, run_after}
pub use Rattle.tx_runs.specs.Savepoints.{again_of, cut_back, savepoints_after}
pub use Rattle.tx_runs.specs.Tallies.{begins_again, begun, closed, ending_as, outside, over_as, sent_back, Stage, Stand, stand_of, Taken, Tally, took_in, tried, with_call, within}
pub use Rattle.tx_runs.specs.declared.ending.End.{End}
pub use Rattle.tx_runs.specs.declared.ending.End.TheVariants.{Finished, GaveUp, NoMemory}
pub use Rattle.tx_runs.specs.Currents.{Current, Begins, Outside, Within}
pub use Rattle.tx_runs.specs.declared.player_run.PlayerRun.{PlayerRun}
pub use Rattle.tx_runs.specs.declared.savepoint.Savepoint.{Savepoint}
pub use Rattle.user_actions.specs.Actions.{Actions, total}
pub use Rattle.world_rules.proofs.Commits.Memories.{bytes_stay, bytes_still, found_later, none_next}
pub use Rattle.world_rules.proofs.Events.Measures.{event_less, less_less, same_less}
pub use Rattle.world_rules.proofs.Events.Worlds.{going_in, lawful_at, odd_or_even, set_place, waiting_going}
pub use Rattle.world_rules.proofs.Tries.LaterTries.{continues_as, continues_back, continues_on, continues_same, current_open, current_shut, extends_calls, extends_to, extends_twice, goes_for, stays, stays_between, stays_open, tries_from, tries_later}
pub use Rattle.world_rules.proofs.Tries.Stages.{asked_at, asked_began, asked_begun, asked_open, asked_points, back_player, begun_shut, busy_player, conflict_player, is_cut, is_tried, moved_begun, moved_count, moved_open, moved_stage, none_begun, open_by, open_only, others_place, others_same, others_twice, reply_player, row_is_of, row_open, row_same, row_shut, row_unfinished, sent_same, stage_begun, stage_open, stage_out, stand_at, taken_at, taken_of, tally_at, told_active, told_again, told_nth, told_pending, told_player, told_stage, within_at}
pub use Rattle.world_rules.proofs.Tries.ToldTries.{told_kept, told_tries}
pub use Rattle.world_rules.specs.ActionRoom.{AsksAs, BacksIn, BeganIn, BeganWith, HasFew, HasFirst, HasPlace, HasRoomFor, IsActing, IsPromised, MayRun, MayRunOn, NestsAs, NestsBy, NestsReady, NoCancel, opened_by, PromisesAs, RenewsAs, StartsEmpty}
pub use Rattle.world_rules.specs.Actor.{Actor}
pub use Rattle.world_rules.specs.Actors.{AreActors, IsActor, limits_of}
pub use Rattle.world_rules.specs.Cells.{Cells, cells_after, found}
pub use Rattle.world_rules.specs.ClockHolder.{ClocksOn, HoldsOn}
pub use Rattle.world_rules.specs.Commits.{CommitsInOrder}
pub use Rattle.world_rules.specs.Dates.{AreDated, IsDated, led_by, tried_by, tried_in, up_to_last}
pub use Rattle.world_rules.specs.Events.{IsEvent}
pub use Rattle.world_rules.specs.Headline.{AreCounted, AreOfActors, AreOpaque, bytes_at, first_of}
pub use Rattle.world_rules.specs.HeldAttempts.{IsHeld, StandsIn}
pub use Rattle.world_rules.specs.LocalWork.{Acts, ActsOn, calls, finishes, SameActor, Starves, starves, Stays, TakesIn, Works}
pub use Rattle.world_rules.specs.LogAgreement.{AreLaid, Loaded, Sees}
pub use Rattle.world_rules.specs.Memories.{words_at}
pub use Rattle.world_rules.specs.PlayerRooms.{EndsWithin, going_room, TellsRoom}
pub use Rattle.world_rules.specs.Progress.{asks_further, is_step, TellsCall, TellsEvent}
pub use Rattle.world_rules.specs.Records.{Asks as AsksOf, ReadsAt, Records, status_after, TakesTo, Tells, told}
pub use Rattle.world_rules.specs.Rows.{AreEnded, AreFrom, AreOpen, AreUnfinished, Rows}
pub use Rattle.world_rules.specs.Runs.{IsBeforeTry, IsFed, IsInTry, IsRun, RunsFrom, StillRuns}
pub use Rattle.world_rules.specs.Sound.{BeginsAt, Falls, GoesOn, HasLess, HasPoints, HasRow, IsAnswered, IsAsked, IsDone, IsDue, IsInCall, IsKept, IsNoMore, IsReady, IsSettledBy, IsSound, IsTied, IsWaiting, rank, rank_now, RestsAs, StatusIs, steps_left}
pub use Rattle.world_rules.specs.Stages.{active_of, AllOf, begun_in, calls_of, cancels_in, count_all, count_in, count_of, ends_in, KeepsOthers, moved_to, open_in, opens, pending_of, points_in, with_open, with_room}
pub use Rattle.world_rules.specs.Starts.{first_engine, IsFirst}
pub use Rattle.world_rules.specs.Status.{ending_of, is_ready, is_waiting, waiting_step}
pub use Rattle.world_rules.specs.Tied.{AreTied}
pub use Rattle.world_rules.specs.Tries.{begins, between, Continues, current_of, EndsAt, EndsIt, Extends, GoesOnAfter, HasStopped, IsBetween, IsSame, outrun, over, Prior, prior_of, runs, shut_out, Tries, TriesAgain, turned_away}
pub use Rattle.world_rules.specs.World.{attempts_of, ending_at, ending_in, event_result, observed, waits_at, World}
pub use Rattle.world_rules.specs.WorldEvents.{ActorGoes, Goes, HasRead}
pub use Rattle.world_rules.specs.declared.actor.Status.{Status}
pub use Rattle.world_rules.specs.declared.actor.Status.TheVariants.{Ended, Ready, Waits}
pub use Rattle.std.proofs.lemmas.Bool.{and_right, both_ways, cases_Bool, cases_eq, cond-false, cond-true, cond_both, eqb-false, false_from_ne_true, le-ltb, ltb-false, ltb-true, ne_eqb, not_from_true}
pub use Rattle.std.proofs.lemmas.List.{append-nil, length-append, length-take}
pub use Rattle.std.proofs.lemmas.Option.{none-some, same_Some, slice_get-get_or, slice_get_within}
pub use Rattle.std.specs.List.{AllByRecursion, slice_index_or}
