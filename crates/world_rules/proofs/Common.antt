-- The names that more than one proof cites, passed on from one place. Declares nothing.
pub use Rattle.itm_model.specs.Machine.{after, after_unless, is_open, opened, outside, refusal, reply}
pub use Rattle.itm_model.specs.Runs.{answers, answers_within, turn}
pub use Rattle.itm_model.specs.State.{Block, State}
pub use Rattle.itm_types.proofs.Words.{slice_get-set_same}
pub use Rattle.itm_types.specs.Memory.{bytes_of, words_of}
pub use Rattle.itm_types.specs.declared.call.Call.{Call}
pub use Rattle.itm_types.specs.declared.call.Call.TheVariants.{Abort, Begin, Commit, Load, Log, Mode, Read, Save, Write}
pub use Rattle.itm_types.specs.declared.call.Props.{Props}
pub use Rattle.itm_types.specs.declared.call.Ran.{Ran}
pub use Rattle.itm_types.specs.declared.call.Refusal.{Refusal}
pub use Rattle.itm_types.specs.declared.call.Reply.{Reply}
pub use Rattle.itm_types.specs.declared.call.Reply.TheVariants.{Done}
pub use Rattle.itm_types.specs.declared.limits.Limits.{Limits}
pub use Rattle.itm_types.specs.declared.step.Step.{Step}
pub use Rattle.norec_core.proofs.Replies.AnsweredEngines.{rests}
pub use Rattle.norec_core.specs.Core.{Core, in_transaction, irrevocable_room, opening}
pub use Rattle.norec_core.specs.Moves.{IsResumed}
pub use Rattle.norec_core.specs.Proceeds.{Proceeds}
pub use Rattle.norec_core.specs.Stands.{stands_for}
pub use Rattle.norec_core.specs.declared.answer.Answer.{Answer}
pub use Rattle.norec_core.specs.declared.answer.Next.{Next}
pub use Rattle.norec_core.specs.declared.answer.Next.TheVariants.{Answer as Answers}
pub use Rattle.tx_attempts.specs.Alone.{IsAlone, player_then, state_then}
pub use Rattle.tx_attempts.specs.Attempts.{alone, ByAbort, ClosedBy, committed_at, is_at, is_committed, memory_after, memory_left, pair_of}
pub use Rattle.tx_attempts.specs.Kept.{Kept, reserved}
pub use Rattle.tx_attempts.specs.Opacity.{after_try, answered_all, begin_code, begin_of, begin_within, Beginning, Between, EndsAs, follows, IsOpaque, IsRunOf, takes_clock}
pub use Rattle.tx_attempts.specs.declared.attempt.Attempt.{Attempt}
pub use Rattle.tx_attempts.specs.declared.attempt.CallRecord.{CallRecord}
pub use Rattle.tx_attempts.specs.declared.attempt.Outcome.{Outcome}
pub use Rattle.tx_player.specs.Rules.{Obeys, Rules}
pub use Rattle.tx_runs.proofs.RunLists.{there_is}
pub use Rattle.tx_runs.specs.Nesting.{whole}
pub use Rattle.tx_runs.specs.Outcomes.{is_done}
pub use Rattle.tx_runs.specs.PlayerRuns.{stage_of, tally_of}
pub use Rattle.tx_runs.specs.Runs.{begins_at, run_after}
pub use Rattle.tx_runs.specs.Tallies.{begins_again, Stage, stand_of, Taken, took_in}
pub use Rattle.tx_runs.specs.declared.ending.End.TheVariants.{Finished, GaveUp}
pub use Rattle.world_rules.specs.Actor.{Actor}
pub use Rattle.world_rules.specs.Actors.{AreActors}
pub use Rattle.world_rules.specs.Cells.{Cells, cells_after, found, IsCell}
pub use Rattle.world_rules.specs.Commits.{CommitsInOrder}
pub use Rattle.world_rules.specs.Events.{IsEvent}
pub use Rattle.world_rules.specs.Headline.{AreCounted, AreOfActors, AreOpaque, bytes_at}
pub use Rattle.world_rules.specs.HeldAttempts.{StandsIn}
pub use Rattle.world_rules.specs.LocalWork.{Acts}
pub use Rattle.world_rules.specs.Progress.{asks_further, LeavesLess}
pub use Rattle.world_rules.specs.Records.{ReadsAt, Records, status_after, TakesTo, Tells, told}
pub use Rattle.world_rules.specs.Rows.{Rows, rows_in}
pub use Rattle.world_rules.specs.Runs.{IsBeforeTry}
pub use Rattle.world_rules.specs.Sound.{Falls, GoesOn, HasLess, HasPoints, HasRow, IsKept, IsNoMore, rank_now, run_left, StatusIs, steps_left}
pub use Rattle.world_rules.specs.Stages.{active_of, AllOf, begun_in, cancels_in, count_in, count_of, ends_in, KeepsOthers, moved_to, open_in, pending_of, points_in}
pub use Rattle.world_rules.specs.Starts.{first_engine, HasStarted}
pub use Rattle.world_rules.specs.Status.{ending_of, is_ready, is_waiting, waiting_step}
pub use Rattle.world_rules.specs.Tied.{AreTied}
pub use Rattle.world_rules.specs.Tries.{begins, between, Continues, current_of, EndsAt, Extends, GoesBack, GoesOnAfter, IsBetween, IsSame, outrun, over, Prior, prior_of, runs, shut_out, Tries, TriesAgain, turned_away}
pub use Rattle.world_rules.specs.World.{counted, ending_at, event_result, is_event, observed, operation_at, SameOpening, waits_at, World}
pub use Rattle.world_rules.specs.WorldEvents.{Goes, is_passed, is_starved, is_taken, Leads, passes_of, Takes}
pub use Rattle.world_rules.specs.declared.actor.Status.{Status}
pub use Rattle.world_rules.specs.declared.actor.Status.TheVariants.{Ended, Ready, Waits}
pub use Rattle.write_set.specs.declared.row.Row.{Row}
pub use Rattle.std.proofs.lemmas.Bool.{both_ways, cases_Bool, cases_lt, cond-false, cond-true, eqb-false, false_from_ne_true, le-ltb}
pub use Rattle.std.proofs.lemmas.List.{length-append, take_more}
pub use Rattle.std.proofs.lemmas.Option.{none-some, same_Some, slice_get_read, slice_get_within}
pub use Rattle.std.specs.List.{slice_index_or}
pub use Rattle.std.specs.Option.{option_and_then, option_map, option_map_or}
